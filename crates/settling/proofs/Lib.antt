-- Modules of proofs that belong to no one function.
pub mod Ends
pub mod Views
pub mod Looped
