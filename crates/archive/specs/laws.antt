-- Laws of the definitions.
pub mod Frames
pub mod RoundTrip
