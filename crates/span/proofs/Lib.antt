pub mod Rounding
pub mod Points
pub mod Widths
pub mod Operations
pub mod Differences
pub mod Comparisons
pub mod Below
