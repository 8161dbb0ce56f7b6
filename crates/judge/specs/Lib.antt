pub mod Aims
pub mod Targets
pub mod Verdicts
pub mod Judges
