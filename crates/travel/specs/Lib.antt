pub mod Steps
pub mod Passes
pub mod Arrives
