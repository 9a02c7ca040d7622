pub mod Judgements
pub mod Steps
pub mod Finding
pub mod Progressing
pub mod Assigning
pub mod Shaping
