pub mod Answer
pub mod KnownCases
pub mod KnownAirs
pub mod Entering
pub mod laws
