pub mod Answering
pub mod Balancing
pub mod Looking
