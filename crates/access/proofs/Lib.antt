pub mod Chunks
pub mod Uses
pub mod Granting
