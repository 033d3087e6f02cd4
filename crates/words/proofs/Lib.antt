pub mod Backward
pub mod Draws
pub mod Hexes
pub mod Numbers
pub mod Places
pub mod Sets
