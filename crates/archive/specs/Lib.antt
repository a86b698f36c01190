pub mod Archived
pub mod Steps
pub mod laws
