-- Modules of proofs; they belong to no one function.
pub mod TenRows
pub mod RowsReached
pub mod RunsEnd
pub mod HandedTurns
pub mod HandedCalls
pub mod HandedSteps
pub mod Handed
