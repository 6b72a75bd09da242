pub mod Four
pub mod LookupLaws
pub mod Places
pub mod SumLaws
pub mod Windows
