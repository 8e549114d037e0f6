pub mod Content
pub mod Verdicts
