pub mod Transposed
pub mod Refusals
pub mod Stored
pub mod laws
