pub mod Vectors
mod VectorsTrees
mod VectorsWords
pub mod Steady
pub mod SteadyLists
pub mod SteadyParts
pub mod SteadyColons
pub mod SteadyOperands
pub mod SteadyOperators
pub mod SteadyDomains
pub mod SteadyAll
pub mod Stopping
pub mod Completing
pub mod CompletingParts
pub mod CompletingOperands
pub mod CompletingOpened
pub mod CompletingReads
pub mod CompletingOperators
pub mod CompletingDomains
pub mod CompletingAll
pub mod Answering
pub mod OneOutcome
pub mod Calling
pub mod Called
