pub mod Groups
pub mod Turns
pub mod Encodings
