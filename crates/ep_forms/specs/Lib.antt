pub mod Forms
pub mod Ranks
