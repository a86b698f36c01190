pub mod Known
pub mod KnownAirs
pub mod Entries
