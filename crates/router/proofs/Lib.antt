pub mod Tables
pub mod SameBox
pub mod Allowed
pub mod OfLists
pub mod Having
pub mod Stood
pub mod AllRoads
