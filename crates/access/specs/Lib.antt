pub mod Told
pub mod Groups
pub mod Memory
