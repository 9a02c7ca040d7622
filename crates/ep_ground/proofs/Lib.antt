pub mod SameNodes
pub mod Taking
pub mod SameTerms
pub mod Grown
pub mod SameParts
pub mod TermLaws
