-- Laws of the definitions.
pub mod Lengths
pub mod Checks
pub mod Verdicts
pub mod Examples
