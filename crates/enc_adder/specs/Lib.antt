pub mod Adding
pub mod Bits
pub mod Comparing
pub mod Parts
