pub mod Writing
pub mod Reading
pub mod Ranges
pub mod Blanks
