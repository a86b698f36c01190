pub mod Refusals
pub mod Tests
pub mod Ends
pub mod Operations
pub mod Runs
pub mod Steps
pub mod laws
