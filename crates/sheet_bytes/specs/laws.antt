-- Laws of the definitions.
pub mod Places
pub mod Lent
