pub mod Elements
pub mod Instances
pub mod Refusals
pub mod Counted
pub mod Tests
pub mod Reading
pub mod Steps
