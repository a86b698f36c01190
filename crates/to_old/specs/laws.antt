-- Laws of the definitions.
pub mod Verdicts
