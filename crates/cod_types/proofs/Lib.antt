pub mod Replaced
pub mod Faults
pub mod Homes
pub mod Refusals
