-- The laws: nothing here need be believed.
pub mod Readings
