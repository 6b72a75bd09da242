pub mod Adopting
pub mod Starting
pub mod Splitting
