pub mod Views
pub mod Settings
pub mod Options
pub mod Jobs
pub mod Commands
