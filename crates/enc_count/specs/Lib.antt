pub mod Counts
pub mod Different
