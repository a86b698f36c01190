-- What is proved of the judging.
pub mod Widths
