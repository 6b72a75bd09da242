pub mod Coefficients
pub mod Commands
pub mod Fit
pub mod Planned
pub mod Ends
pub mod Replays
