pub mod Decoding
pub mod Layouts
pub mod Formulas
pub mod VariableInside
pub mod Notes
pub mod Ties
