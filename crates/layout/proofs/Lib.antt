pub mod Back
pub mod Defaults
pub mod Numbers
pub mod Pads
