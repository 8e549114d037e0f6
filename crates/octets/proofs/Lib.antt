pub mod Fronts
pub mod Puts
pub mod Parts
pub mod Numbers
pub mod Many
pub mod Times
