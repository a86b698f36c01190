pub mod Numbers
pub mod Storing
pub mod laws
