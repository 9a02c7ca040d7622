pub mod CellNames
pub mod NearCells
pub mod Noted
