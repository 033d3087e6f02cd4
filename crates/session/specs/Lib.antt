pub mod Calls
pub mod Holding
pub mod Orders
pub mod Replies
