pub mod ComparisonFacts
pub mod JunctionTurns
pub mod Descending
pub mod TermTurns
