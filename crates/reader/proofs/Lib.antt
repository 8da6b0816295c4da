-- Modules of proofs that belong to no one function.
pub mod Rows
pub mod Good
pub mod Left
pub mod Kept
pub mod Unbroken
pub mod Told
pub mod Inverse
pub mod Examples
