pub mod Inversions
pub mod Judging
pub mod Tellings
