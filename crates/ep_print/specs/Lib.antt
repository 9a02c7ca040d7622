pub mod Joining
pub mod Values
pub mod Answers
pub mod Listings
pub mod Words
pub mod Models
pub mod Refusals
pub mod Putting
