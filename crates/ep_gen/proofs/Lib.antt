mod Squares
mod Params
mod Vectors
