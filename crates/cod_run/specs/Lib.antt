pub mod Commands
pub mod Jobs
pub mod Shifts
pub mod Ends
pub mod Runs
