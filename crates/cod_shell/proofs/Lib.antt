pub mod Texts
pub mod Taken
pub mod TextRead
pub mod Bare
pub mod Wider
pub mod Fitting
