pub mod Replay
pub mod Laws
pub mod State
pub mod Turns
