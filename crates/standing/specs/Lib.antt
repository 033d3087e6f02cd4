pub mod Sizes
pub mod Tests
pub mod Words
