-- What a law speaks of.
pub mod Words
