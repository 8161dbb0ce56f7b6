pub mod Ends
pub mod Fares
pub mod Checking
pub mod Search
pub mod Moves
pub mod Results
