pub mod Rooming
pub mod Dating
pub mod Playing
pub mod Turning
pub mod Ending
pub mod Making
pub mod Starting
