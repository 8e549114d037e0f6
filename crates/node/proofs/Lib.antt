pub mod Written
pub mod Steps
pub mod Ticked
pub mod Framing
pub mod Heard
pub mod Passed
pub mod Begun
