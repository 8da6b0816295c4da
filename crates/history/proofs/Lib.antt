-- Modules of proofs that belong to no one function.
pub mod Over
pub mod Statuses
pub mod Sorts
pub mod Parts
pub mod Rules
pub mod Few
pub mod Logs
pub mod Locks
pub mod Calls
pub mod Readings
pub mod Theorem
pub mod Stored
pub mod Exists
pub mod Tight
