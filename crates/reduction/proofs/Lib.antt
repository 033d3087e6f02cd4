pub mod One
pub mod Single
