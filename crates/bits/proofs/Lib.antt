pub mod Picks
pub mod OfBits
pub mod Lowest
pub mod Changes
pub mod Taking
