pub mod Cases
pub mod Judging
pub mod Judgments
pub mod Writing
pub mod Witnesses
