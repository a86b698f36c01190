-- Laws of the definitions.
pub mod Within
pub mod Spelling
pub mod Written
pub mod Writing
