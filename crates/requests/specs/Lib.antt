-- What a line of a request spells.
pub mod Frames
