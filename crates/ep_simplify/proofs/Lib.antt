pub mod Values
pub mod Untold
pub mod Taking
mod Forms
mod Deciding
mod Negating
mod Joining
mod Picking
mod Settled
pub mod Images
pub mod Simplified
pub mod Additions
