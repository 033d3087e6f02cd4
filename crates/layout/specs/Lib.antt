pub mod Held
pub mod Kinds
pub mod Network
pub mod Zeros
pub mod Slots
