pub mod Digits
pub mod Back
