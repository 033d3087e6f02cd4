pub mod Continuing
pub mod LastRows
pub mod Paths
pub mod Rows
pub mod Templates
pub mod Trees
