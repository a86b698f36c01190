pub mod Reading
pub mod TwoParts
pub mod Magnitude
pub mod Comparisons
