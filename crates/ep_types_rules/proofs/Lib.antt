pub mod Said
pub mod RuleSteps
