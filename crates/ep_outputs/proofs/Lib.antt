mod Givens
pub mod Telling
