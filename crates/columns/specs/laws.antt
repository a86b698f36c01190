-- Laws of the definitions.
pub mod Cells
pub mod RoundTrip
pub mod Examples
