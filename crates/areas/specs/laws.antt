-- Laws of the definitions.
pub mod Areas
