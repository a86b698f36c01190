-- Laws of the definitions.
pub mod Readings
pub mod Verdicts
pub mod Numbers
