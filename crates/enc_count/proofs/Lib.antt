pub mod Counting
pub mod Differing
pub mod OtherKinds
