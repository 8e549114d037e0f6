pub mod Parcels
pub mod Taken
