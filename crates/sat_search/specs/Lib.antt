pub mod View
pub mod Logs
pub mod SolverInside
pub mod Analysis
pub mod MarksInside
