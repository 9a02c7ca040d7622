pub mod Reading
pub mod Right
pub mod Formulas
pub mod Logged
pub mod Listed
pub mod Searched
