-- The laws of the definitions: nothing here need be believed.
pub mod Order
pub mod Numbers
