pub mod Back
pub mod Reading
pub mod Magnitude
