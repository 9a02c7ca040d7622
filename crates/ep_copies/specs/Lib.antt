pub mod Copied
pub mod Kinds
