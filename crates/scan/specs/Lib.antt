-- What reading a data file gives.
pub mod Words
pub mod Sums
pub mod laws
