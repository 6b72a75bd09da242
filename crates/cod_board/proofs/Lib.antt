pub mod Closing
pub mod Found
pub mod Keeps
pub mod Known
pub mod Lists
pub mod Sitting
