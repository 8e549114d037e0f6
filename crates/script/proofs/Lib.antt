pub mod Lines
pub mod Spaced
pub mod Back
