pub mod Benches
pub mod Columns
pub mod Pieces
pub mod Targets
pub mod Views
pub mod Laws
