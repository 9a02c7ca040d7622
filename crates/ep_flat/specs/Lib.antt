pub mod Cons
pub mod Flats
pub mod FlatViews
