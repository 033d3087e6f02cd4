pub mod Adding
pub mod Closing
pub mod Committing
pub mod Joined
pub mod Starting
pub mod Trying
