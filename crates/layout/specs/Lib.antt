pub mod Bytes
pub mod Places
pub mod Fitting
pub mod laws
