pub mod Bringing
pub mod Orders
pub mod Parts
