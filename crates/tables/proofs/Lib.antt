pub mod Meanings
pub mod Promises
pub mod Readings
pub mod Turns
