pub mod Xor
pub mod Entries
pub mod Passing
pub mod Cases
