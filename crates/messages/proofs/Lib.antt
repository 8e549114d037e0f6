pub mod Arrays
pub mod Zeros
