pub mod Later
pub mod Replies
pub mod Stepping
