-- What the test program's answers are judged by.
pub mod Table
pub mod Figures
pub mod Bounds
pub mod Judging
