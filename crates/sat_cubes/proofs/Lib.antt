mod Models
mod Waving
