pub mod Cells
pub mod Placing
pub mod Poking
pub mod Rows
pub mod Wrongs
