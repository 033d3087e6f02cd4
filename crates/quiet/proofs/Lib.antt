pub mod Commands
pub mod Contents
pub mod Networks
pub mod Patterns
pub mod Sets
pub mod Trees
