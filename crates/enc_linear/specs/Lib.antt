pub mod Bounds
pub mod Folding
pub mod Guards
pub mod Ladders
pub mod Sources
pub mod Terms
