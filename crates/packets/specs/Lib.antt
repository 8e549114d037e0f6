pub mod Errands
pub mod Errors
pub mod Packet
pub mod Quotas
pub mod Sums
pub mod Travels
