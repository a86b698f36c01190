-- What several proofs cite.
pub mod Turns
