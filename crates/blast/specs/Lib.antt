pub mod WaveEnds
pub mod Promises
pub mod OneProof
pub mod Intermediates
pub mod Distance
pub mod Windows
pub mod PowerBounds
pub mod Exponents
