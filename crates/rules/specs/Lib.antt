-- The definitions that the contracts cite.
pub mod Entry
pub mod Updates
pub mod Walks
pub mod Corruption
pub mod Failures
pub mod Recovery
pub mod Cases
pub mod Numbered
pub mod Changes
pub mod Decided
pub mod Performed
