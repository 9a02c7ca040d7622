pub mod Named
pub mod Concluding
