pub mod Admission
pub mod Faults
