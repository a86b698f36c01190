pub mod Checked
pub mod Tests
pub mod Checks
pub mod laws
