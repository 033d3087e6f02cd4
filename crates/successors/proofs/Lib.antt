pub mod FlaggedSoFar
pub mod More
