pub mod Lists
pub mod Splits
pub mod Words
pub mod SettingLaws
pub mod Edges
pub mod OptionRules
pub mod OptionWords
pub mod OptionWalk
pub mod OptionRows
pub mod OptionTakes
pub mod OptionReads
pub mod OptionLaws
pub mod OptionCommand
pub mod OptionLists
pub mod OptionSettings
mod VectorsCommands
