pub mod Cubes
mod Least
mod Units
