pub mod Aiming
pub mod Choices
pub mod Finding
