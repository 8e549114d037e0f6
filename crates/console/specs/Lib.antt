pub mod Hex
pub mod Inputs
pub mod Outputs
pub mod Back
