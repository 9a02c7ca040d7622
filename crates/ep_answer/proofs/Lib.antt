pub mod Posing
pub mod Deciding
pub mod Searching
pub mod OtherNumbers
pub mod Listing
