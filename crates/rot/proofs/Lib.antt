-- Modules of proofs that belong to no one function.
pub mod Choice
pub mod Weight
pub mod Bound
pub mod Numbers
pub mod Named
pub mod Readings
pub mod Shape
pub mod Parts
