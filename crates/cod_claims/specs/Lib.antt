pub mod Changes
pub mod Slips
pub mod Claimed
pub mod Left
