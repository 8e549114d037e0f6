pub mod Offers
pub mod Lasts
pub mod Firsts
pub mod Goes
pub mod Turn
pub mod Ends
pub mod Lists
pub mod Keeps
