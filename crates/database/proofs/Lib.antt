pub mod Tables
pub mod Had
