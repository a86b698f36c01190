pub mod Verdict
pub mod Refusals
pub mod Verdicts
pub mod Writing
pub mod Steps
pub mod laws
