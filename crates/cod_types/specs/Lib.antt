pub mod Limits
pub mod Overwritten
pub mod Faults
pub mod Plain
pub mod Columns
pub mod Accepted
