pub mod Tasks
pub mod State
pub mod Standing
pub mod Serving
pub mod Building
