-- Modules of proofs that belong to no one function.
pub mod Stepping
pub mod Starting
pub mod Readings
pub mod Words
