pub mod Told
pub mod Faults
pub mod Order
