pub mod ListLoops
pub mod OperandFacts
pub mod WordFacts
pub mod ChainTurns
pub mod SetTurns
pub mod DomainLoops
