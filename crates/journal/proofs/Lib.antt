pub mod Local
pub mod Replays
mod Going
