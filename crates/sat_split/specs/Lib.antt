pub mod Cubes
pub mod Found
