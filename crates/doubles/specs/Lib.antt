pub mod Doubles
pub mod Bits
pub mod RoundTrip
pub mod laws
