pub mod Access
pub mod Effects
pub mod Filling
pub mod Soundness
pub mod StepLaws
pub mod Steps
pub mod Values
