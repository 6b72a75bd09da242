pub mod Advancing
pub mod Events
pub mod Exact
pub mod Looks
pub mod Views
