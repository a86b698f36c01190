-- Laws of the definitions.
pub mod Verdicts
pub mod Writing
pub mod Numbers
