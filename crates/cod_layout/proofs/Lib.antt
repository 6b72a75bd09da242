pub mod Splitting
pub mod Blocks
