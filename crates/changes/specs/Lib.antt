pub mod Gives
pub mod Pastes
pub mod Turns
