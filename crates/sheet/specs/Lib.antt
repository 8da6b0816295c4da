-- The definitions that the contracts cite.
pub mod Refused
pub mod Sheet
