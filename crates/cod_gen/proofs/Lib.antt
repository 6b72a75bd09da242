pub mod Lining
pub mod Naming
pub mod Rounds_drawn
pub mod Clients
pub mod Sound
