-- Modules of proofs that belong to no one function.
pub mod Walk
pub mod Lookup
pub mod Accepted
pub mod Asked
pub mod Kept
pub mod Judged
pub mod Fill
pub mod Places
pub mod Room
