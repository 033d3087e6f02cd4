pub mod ChangeLaws
pub mod Changing
pub mod Granted
pub mod Holding
pub mod Pasting
pub mod Sound
