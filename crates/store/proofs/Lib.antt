pub mod Search
pub mod Ways
pub mod Searches
pub mod Checking
pub mod Placing
