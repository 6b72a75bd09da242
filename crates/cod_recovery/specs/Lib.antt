pub mod Filling
pub mod Leaving
pub mod Sweeping
