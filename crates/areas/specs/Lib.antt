pub mod Areas
pub mod laws
