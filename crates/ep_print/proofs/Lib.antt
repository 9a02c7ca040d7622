mod Vectors
pub mod Puts
pub mod Turns
pub mod Numbering
pub mod RunLaws
pub mod Appends
pub mod Matrices
pub mod Rows
pub mod Arms
pub mod Sentences
