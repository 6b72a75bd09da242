pub mod Digits
pub mod FirstLines
pub mod Names
pub mod Round
