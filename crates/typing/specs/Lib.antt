pub mod Flow
pub mod Telling
pub mod Typing
pub mod TypingLaws
