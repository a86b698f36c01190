-- Laws of the definitions.
pub mod Sums
