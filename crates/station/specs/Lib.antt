pub mod Parts
pub mod Packets
pub mod State
pub mod Ticking
pub mod Hearing
pub mod Events
