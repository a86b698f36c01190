-- Laws of the definitions.
pub mod Retired
pub mod Returned
pub mod Words
