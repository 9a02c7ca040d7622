pub mod Numbered
pub mod Hinted
pub mod Placing
pub mod Reading
pub mod Turns
pub mod Named
