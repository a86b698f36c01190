-- Laws of the definitions.
pub mod Trims
pub mod Closings
pub mod Contents
pub mod Acts
pub mod Kept
pub mod Examples
