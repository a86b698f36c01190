-- Laws of the definitions.
pub mod Storing
pub mod Back
