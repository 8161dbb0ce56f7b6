pub mod Sentences
pub mod Counters
pub mod Conditions
pub mod Queues
