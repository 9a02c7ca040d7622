pub mod Growing
pub mod Images
pub mod Translations
