pub mod Filled
pub mod Joining
pub mod Leaving
pub mod Rooms
