-- The definitions that the contracts cite.
pub mod Settle
pub mod View
pub mod Parts
