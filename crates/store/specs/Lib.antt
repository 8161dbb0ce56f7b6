pub mod Way
pub mod Searches
