-- Laws of the definitions.
pub mod Entering
pub mod Kept
pub mod Places
pub mod Sequences
pub mod Rightly
pub mod Totals
pub mod Examples
