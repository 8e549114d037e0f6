pub mod Net
pub mod Standing
pub mod Fits
pub mod Windows
pub mod Quiet
