pub mod Listing
pub mod Showing
