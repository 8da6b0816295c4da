-- The definitions that the contracts cite.
pub mod Step
pub mod Whom
pub mod Stepped
