pub mod Reading
pub mod Verdict
pub mod Refusals
pub mod Tests
pub mod Entry
pub mod Steps
pub mod laws
