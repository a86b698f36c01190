-- The laws of the definitions: nothing here need be believed.
pub mod Ranges
pub mod Limits
pub mod Fronts
pub mod Energies
pub mod Order
pub mod Comparisons
pub mod Domain
pub mod Units
pub mod Metres
pub mod Known
