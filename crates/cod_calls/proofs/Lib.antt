pub mod Between
pub mod Following
pub mod Holding
pub mod In_call
pub mod Lending
pub mod Rooming
pub mod Waiting
