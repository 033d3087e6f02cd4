pub mod Draws
pub mod Faults
pub mod Pairs
pub mod Rows
pub mod Bounds
