pub mod Powers
pub mod Counting
pub mod Sums
