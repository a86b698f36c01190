-- The guidance: definitions to believe, and laws.
pub mod Substances
pub mod AirPressure
pub mod Ranges
pub mod Clouds
pub mod Distances
pub mod Waves
pub mod Probits
pub mod Cases
pub mod CloudWords
pub mod CaseQ
