pub mod Distances
pub mod Exponents
