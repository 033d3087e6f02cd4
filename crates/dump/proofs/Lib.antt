pub mod Edges
pub mod Numbered
pub mod Slots
pub mod Roles
