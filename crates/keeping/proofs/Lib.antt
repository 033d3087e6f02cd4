pub mod AllLaws
pub mod Calling
pub mod Growing
pub mod Listed
pub mod Reading
pub mod Stored
