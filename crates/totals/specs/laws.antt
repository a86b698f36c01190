-- Laws of the definitions.
pub mod Counts
pub mod Firsts
pub mod Trims
pub mod Changes
pub mod Shown
pub mod Examples
