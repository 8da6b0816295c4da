-- Modules of proofs that belong to no one function.
pub mod Names
pub mod Cards
pub mod Inverse
pub mod Examples
