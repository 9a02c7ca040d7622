pub mod Decided
pub mod Settling
pub mod Standing
