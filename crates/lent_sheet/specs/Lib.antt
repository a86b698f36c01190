pub mod Refusals
pub mod Calls
pub mod Runs
pub mod Steps
pub mod laws
