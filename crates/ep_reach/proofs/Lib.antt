pub mod Ends
pub mod Nodes
pub mod Reaching
pub mod Telling
pub mod Lies
pub mod Narrower
