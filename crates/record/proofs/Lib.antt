pub mod Standing
pub mod Slots
pub mod Records
pub mod ByKind
pub mod Parts
