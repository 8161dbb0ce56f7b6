-- The rules of document 01, of counters and of fare queues, as definitions that antt computes, in reading order.
pub mod Basic
pub mod Hex
-- Command and response bytes
pub mod Command
pub mod Response
-- Life cycles and access expressions
pub mod Expression
-- What an object holds on the controller
pub mod Queue
pub mod Object
pub mod Kinds
pub mod Found
pub mod Layout
pub mod Counter
pub mod Factory
pub mod Session
pub mod Access
-- Reading and writing
pub mod Metadata
pub mod Verdict
pub mod Chain
pub mod Operation
-- When the element says no, in this order
pub mod Refusals
pub mod Step
-- Lists of commands
pub mod Run
pub mod Program
-- Bench sheet
pub mod Cases
pub mod Stores
pub mod Bench
