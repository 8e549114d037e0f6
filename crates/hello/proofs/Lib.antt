pub mod Tables
pub mod Wires
pub mod Same
pub mod Lowest
