pub mod Closing
pub mod InPlace
pub mod Sealing
pub mod Taking
