pub mod Counting
pub mod Disabling
pub mod Edges
pub mod EdgeLaws
pub mod Enabling
pub mod Matching
pub mod Paths
pub mod Rows
