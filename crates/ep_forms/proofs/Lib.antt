pub mod Depths
mod Words
