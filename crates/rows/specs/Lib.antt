-- What the theorems over runs and histories say.
pub mod Rows
pub mod Handed
