pub mod Answering
pub mod Fitting
pub mod Going
pub mod Grants
pub mod Hops
pub mod Onwards
pub mod Summing
