pub mod Finding
pub mod Claiming
pub mod Preparing
pub mod Joining
pub mod Opening
pub mod Leaving
