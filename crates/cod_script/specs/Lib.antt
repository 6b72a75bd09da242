pub mod Script
pub mod Room
pub mod Weight
pub mod Sound
pub mod Text
pub mod Owed
