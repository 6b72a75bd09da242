pub mod Lines
pub mod Numbers
pub mod Refused
pub mod Taking
pub mod Reading
