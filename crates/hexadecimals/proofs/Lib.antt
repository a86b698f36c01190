pub mod Letters
pub mod Worth
pub mod Turns
