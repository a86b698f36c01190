pub mod Entries
pub mod laws
