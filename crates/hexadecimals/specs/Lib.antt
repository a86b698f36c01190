-- Hexadecimal digits and the bytes that they spell.
pub mod Digits
pub mod Spelling
pub mod Written
pub mod laws
