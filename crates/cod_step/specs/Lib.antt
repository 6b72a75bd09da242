pub mod Live
pub mod Next
pub mod Scenes
