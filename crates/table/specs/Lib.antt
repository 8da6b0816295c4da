-- The definitions that the contracts cite, and the listing that the table is held to.
pub mod Table
pub mod Payload
pub mod Pairs
