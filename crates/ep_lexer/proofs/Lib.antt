pub mod DigitSteps
pub mod Found
pub mod Fronts
pub mod Longest
pub mod PlaceSteps
pub mod Run
pub mod TokenEnds
