pub mod Breaches
pub mod Rules
pub mod TreeLaws
