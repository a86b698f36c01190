-- Laws of the definitions.
pub mod Values
pub mod Patterns
pub mod Bits
pub mod Quotient
pub mod Closest
pub mod Trip
pub mod Distances
pub mod Nearest
pub mod RoundTrip
pub mod Examples
