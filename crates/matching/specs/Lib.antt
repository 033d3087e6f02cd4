pub mod Matching
pub mod MatchingLaws
