pub mod Answer
pub mod Refusals
pub mod Ring
pub mod Searching
pub mod laws
