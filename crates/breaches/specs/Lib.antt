pub mod Broken
pub mod Rules
pub mod Told
pub mod Words
