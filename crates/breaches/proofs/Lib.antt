pub mod Edges
pub mod Jobwise
pub mod Rowwise
