pub mod Served
pub mod Work
pub mod Worlds
pub mod Moments
pub mod Histories
