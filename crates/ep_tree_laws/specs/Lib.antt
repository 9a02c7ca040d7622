pub mod Shapes
pub mod Deciding
pub mod FixedLimits
pub mod Typing
pub mod DecidedValues
pub mod Intervals
pub mod Undecided
