mod Typed
mod Sayings
