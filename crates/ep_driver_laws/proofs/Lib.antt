pub mod TextsRead
pub mod ClausesRead
pub mod WordsRead
pub mod Showing
pub mod Certified
pub mod CertifiedCubes
pub mod Checking
pub mod Generating
