pub mod Closed
pub mod Free
pub mod Room
pub mod Rooms
pub mod Seats
pub mod Spares
pub mod Stores
