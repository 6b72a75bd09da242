pub mod NameBytes
pub mod Lines_added
pub mod Emptied
pub mod RoomSums
pub mod Spacing
