pub mod Atoms
pub mod Literals
pub mod Steps
