pub mod Fits
pub mod Rows
pub mod Sums
pub mod Plans
pub mod Words
pub mod Flushed
pub mod Bare
pub mod Runs
