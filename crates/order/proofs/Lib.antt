pub mod Bits
pub mod Tests
pub mod Sets
pub mod Keep
pub mod Searches
pub mod Uses
