pub mod Dues
pub mod Moved
pub mod Working
pub mod Shifting
pub mod Failed
pub mod Finishing
pub mod Texts
pub mod Played
