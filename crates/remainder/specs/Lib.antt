pub mod Remainder
pub mod Cases
