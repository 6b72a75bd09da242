pub mod Lines
pub mod Judge
pub mod Reads
pub mod Reading
