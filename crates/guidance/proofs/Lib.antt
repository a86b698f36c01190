-- Laws that several proofs cite.
pub mod Products
pub mod laws
