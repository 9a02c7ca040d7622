pub mod Follows
pub mod Sums
