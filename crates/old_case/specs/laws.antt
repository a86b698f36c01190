-- Laws of the definitions.
pub mod Usable
pub mod Fractions
pub mod Trip
