pub mod Numbered
pub mod Seats
pub mod Turning
