-- What the definitions carry, and what promises of the crates above are told in: nothing here need be believed.
pub mod Positive
pub mod Decide
pub mod Divisors
pub mod Pairs
pub mod Containment
pub mod Fixed
pub mod Width
pub mod Reduction
