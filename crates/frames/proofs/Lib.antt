pub mod Whole
pub mod Lines
