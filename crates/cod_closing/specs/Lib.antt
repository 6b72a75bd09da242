pub mod Joining
pub mod Closing
