pub mod Templates
pub mod Tests
pub mod Words
