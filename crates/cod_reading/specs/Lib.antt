pub mod Reads
pub mod Filling
