pub mod Ground
pub mod Reduced
