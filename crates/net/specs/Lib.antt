pub mod Nets
pub mod Plays
pub mod Resting
