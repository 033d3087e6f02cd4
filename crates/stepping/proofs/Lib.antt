pub mod Assembled
pub mod Grounded
pub mod Holdings
pub mod OneLine
