pub mod EndBounds
pub mod Coefficients
pub mod Detonation
pub mod Gas
pub mod Deflagration
pub mod Fronts
