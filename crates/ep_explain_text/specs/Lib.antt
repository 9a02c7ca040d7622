pub mod ExplanationTexts
pub mod Told
