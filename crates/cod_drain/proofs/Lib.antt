mod Endings
mod Leading
mod Pieces
mod Rooms
mod Trials
