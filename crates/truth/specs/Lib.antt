pub mod Book
pub mod Truth
pub mod Runs
