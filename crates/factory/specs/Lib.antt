pub mod Table
pub mod Outcome
