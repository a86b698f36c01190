pub mod Spelling
pub mod Entries
pub mod OneSpelling
pub mod SameValues
pub mod laws
