pub mod One_segment
pub mod Spacing
mod Within
pub mod Splits
pub mod Names
pub mod Back
pub mod ScenarioNames
pub mod Taken
