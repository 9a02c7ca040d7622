pub mod Fewer
mod Copied
