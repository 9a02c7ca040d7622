pub mod Problems
pub mod Answered
pub mod AnswerViews
pub mod Posed
pub mod Searches
