pub mod Dumping
pub mod Listed
pub mod Texts
