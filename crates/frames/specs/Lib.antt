pub mod Frames
pub mod Cases
