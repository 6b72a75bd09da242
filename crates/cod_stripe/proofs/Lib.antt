pub mod AtOnce
pub mod Filling
pub mod Frail
pub mod Giving
pub mod Rooming
