pub mod Correcting
pub mod Failing
pub mod Noting
pub mod Placing
