pub mod Logged
pub mod Meant
pub mod Replies
