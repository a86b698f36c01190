pub mod Fields
pub mod Cases
pub mod Exactly
pub mod laws
