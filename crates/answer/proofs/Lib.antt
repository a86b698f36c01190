pub mod Exactness
pub mod Numbers
pub mod Writing
pub mod Verdicts
