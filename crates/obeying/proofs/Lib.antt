pub mod Copies
pub mod Firsts
pub mod Lines
pub mod Outers
pub mod Parts
