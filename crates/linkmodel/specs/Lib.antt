pub mod Links
pub mod Hellos
pub mod Relinked
pub mod Agreeing
pub mod Station
pub mod Calls
pub mod Telling
