pub mod Building
pub mod Sharing
pub mod Standing
