pub mod Lookups
pub mod Closes
pub mod Maps
