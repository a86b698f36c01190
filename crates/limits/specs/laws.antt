-- Laws of the definitions.
pub mod Limits
pub mod Fields
pub mod Checks
