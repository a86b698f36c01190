-- Laws of the definitions.
pub mod Standing
pub mod Sides
pub mod Choice
pub mod Entries
pub mod Examples
