pub mod Guarantee
pub mod Histories
