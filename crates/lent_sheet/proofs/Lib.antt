pub mod Settling
pub mod Archiving
