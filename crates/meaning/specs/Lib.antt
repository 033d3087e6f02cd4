pub mod Kinds
pub mod Decoding
pub mod Directions
