pub mod Keeping
