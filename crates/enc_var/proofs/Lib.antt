pub mod Counts
pub mod Choices
pub mod Places
pub mod TiedPlaces
pub mod Saying
pub mod Growing
pub mod GoingOn
pub mod Noting
