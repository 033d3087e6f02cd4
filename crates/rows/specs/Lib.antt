pub mod Decoding
pub mod Numbering
