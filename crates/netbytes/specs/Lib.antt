pub mod Arriving
pub mod Trips
pub mod Playing
pub mod Places
