pub mod Over
pub mod Zeros
