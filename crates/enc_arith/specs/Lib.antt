pub mod Finding
pub mod Functions
pub mod Saying
pub mod Elements
pub mod Running
pub mod Operations
pub mod Entries
pub mod Extremes
