pub mod Trues
pub mod Lives
pub mod Hints
pub mod Ids
pub mod Calendars
pub mod Found
mod Vectors
pub mod Verified
pub mod Accepted
