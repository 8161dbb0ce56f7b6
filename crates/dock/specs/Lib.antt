pub mod Streams
pub mod Held
pub mod Parts
pub mod Host
pub mod Hosts
pub mod Cases
