pub mod Targets
pub mod Judging
