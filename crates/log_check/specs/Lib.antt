pub mod Verdict
pub mod Kept
pub mod Table
pub mod SignsInside
pub mod Lives
pub mod Parts
