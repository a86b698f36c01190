-- Laws of the definitions.
pub mod Judged
pub mod Sequences
pub mod Back
pub mod Archived
