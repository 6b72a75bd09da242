pub mod Printed
pub mod Unique
pub mod Alone
pub mod Summary
