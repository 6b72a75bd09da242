pub mod Keeps
pub mod Numbering
pub mod Prefixes
pub mod Sitting
pub mod Totals
pub mod Following
