-- The laws of the definitions: nothing here need be believed.
pub mod RoundTrip
pub mod Examples
