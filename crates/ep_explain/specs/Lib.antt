pub mod Explained
pub mod Tried
pub mod Narrowing
