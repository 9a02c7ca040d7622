pub mod Sharing
pub mod Cutting
pub mod Standing
