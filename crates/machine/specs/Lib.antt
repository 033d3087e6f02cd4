pub mod Calls
pub mod Denials
pub mod Hosting
pub mod Stepping
