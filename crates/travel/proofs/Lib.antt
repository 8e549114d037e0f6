pub mod AsPassed
pub mod AsTrip
pub mod Nearer
