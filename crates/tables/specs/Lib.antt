pub mod Faults
pub mod Loading
pub mod Meaning
