pub mod Least
pub mod Totals
