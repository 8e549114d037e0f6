pub mod Bytes
pub mod Crc
pub mod Internet
pub mod Known
pub mod Refused
