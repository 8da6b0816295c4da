-- Modules of proofs that belong to no one function.
pub mod Every
pub mod Rows
pub mod Right
