pub mod Turns
pub mod Open
pub mod Whole_runs
pub mod Rounds
pub mod Progress
pub mod Losses
pub mod Closed
pub mod Texts
