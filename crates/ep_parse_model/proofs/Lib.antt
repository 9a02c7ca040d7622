mod Phrasing
mod TokenFacts
pub mod OneAnswer
pub mod GroupsAgain
pub mod TextsAgain
pub mod Fitting
pub mod GroupsSound
pub mod TextsSound
pub mod Shrinking
pub mod CommaTurns
pub mod TextTurns
pub mod NextSteps
pub mod WholeTexts
pub mod TextsSteady
pub mod TextStops
pub mod TextFaults
pub mod TextsBegun
pub mod TextRefusals
