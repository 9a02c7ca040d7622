pub mod Junctions
