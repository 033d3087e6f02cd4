pub mod Inversions
pub mod Spelled
pub mod Whole
