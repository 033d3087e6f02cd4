pub mod Calling
pub mod Denying
pub mod Histories
