pub mod Chains
pub mod Links
pub mod RowLemmas
pub mod Supports
pub mod OtherKinds
