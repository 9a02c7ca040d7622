pub mod Wider
mod News
mod Events
mod Hinted
mod Refuting
mod Growing
mod Pairs
mod Turns
mod Falsified
mod Settings
