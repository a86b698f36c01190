-- The laws: nothing here need be believed.
pub mod Deciding
pub mod Entries
pub mod Examples
