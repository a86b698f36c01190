pub mod Promises
pub mod LogSteps
pub mod ExpTables
pub mod ExpSteps
pub mod Enclosing
pub mod Bounds
pub mod PowerWindows
