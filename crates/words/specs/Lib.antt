pub mod Arguments
pub mod Cutting
pub mod Hex
pub mod Laws
pub mod Saying
pub mod Showing
pub mod Spelling
