pub mod Values
pub mod Packets
pub mod Refusals
