pub mod Made
pub mod Promise
