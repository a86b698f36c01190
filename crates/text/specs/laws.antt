-- The laws of the definitions.
pub mod Lines
pub mod Digits
pub mod Tails
pub mod Writers
pub mod Texts
pub mod Caps
pub mod Reaching
pub mod Runs
pub mod Examples
