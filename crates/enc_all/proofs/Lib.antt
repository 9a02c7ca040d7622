pub mod Telling
pub mod Fronts
pub mod Encoding
pub mod LinearParts
