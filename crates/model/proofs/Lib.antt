-- Modules of proofs that belong to no one function.
pub mod Pick
pub mod Found
pub mod Arrays
