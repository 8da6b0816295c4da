-- Modules of proofs that belong to no one function.
pub mod Fresh
pub mod Commute
pub mod Right
