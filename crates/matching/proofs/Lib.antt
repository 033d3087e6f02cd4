pub mod Growing
pub mod Pieces
pub mod Slotwise
