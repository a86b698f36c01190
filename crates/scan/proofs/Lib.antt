-- What several proofs cite.
pub mod Reading
