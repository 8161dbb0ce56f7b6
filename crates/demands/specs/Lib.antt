pub mod Demand
pub mod Queues
