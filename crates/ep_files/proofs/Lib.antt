pub mod FileReading
pub mod OneReading
