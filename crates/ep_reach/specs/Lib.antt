pub mod Reaching
pub mod Narrowing
