pub mod Verdict
pub mod Refusals
pub mod Tests
pub mod Verdicts
pub mod Checks
pub mod laws
