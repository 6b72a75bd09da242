pub mod Accounts
pub mod Calling
pub mod Closing
pub mod Doing
pub mod Holding
pub mod Working
