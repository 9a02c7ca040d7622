pub mod Status
pub mod Readings
pub mod Stops
pub mod Reads
