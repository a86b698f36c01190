-- Laws of the definitions.
pub mod Heats
pub mod Cases
pub mod Spellings
pub mod OneSpelling
pub mod Numbers
pub mod Examples
pub mod Values
