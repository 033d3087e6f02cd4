pub mod Rows
pub mod Filing
