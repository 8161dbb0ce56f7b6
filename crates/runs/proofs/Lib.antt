pub mod Cutting
pub mod LaidOut
pub mod Demand3
pub mod Queues
pub mod Witnesses
