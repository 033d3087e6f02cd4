pub mod Joins
pub mod Fresh
