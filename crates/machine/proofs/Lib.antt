pub mod Readying
pub mod Running
pub mod Stepping
