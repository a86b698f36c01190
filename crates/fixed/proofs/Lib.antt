pub mod Within
pub mod WordSteps
pub mod Sums
pub mod Scaling
pub mod Rounding
pub mod Products
pub mod Pairs
