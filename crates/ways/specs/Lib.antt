pub mod Numbers
pub mod Table
pub mod Turns
pub mod Refusals
