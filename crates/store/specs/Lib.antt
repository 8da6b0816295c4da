-- The definitions that the contracts cite.
pub mod Sink
pub mod Stored
pub mod Retry
pub mod Flags
