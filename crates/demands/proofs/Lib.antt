-- That the rules meet the demands, each file on what those before it say.
pub mod Demand1
pub mod Demand2
pub mod Shown
pub mod Numbered
pub mod Cells
pub mod Plain
pub mod Follows
pub mod Demand3
pub mod Conditions
pub mod Resent
pub mod QueueSteps
pub mod Queues
pub mod Metadata
pub mod SendBack
pub mod Printed
pub mod Witnesses
