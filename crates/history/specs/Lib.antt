-- What demand 3 says.
pub mod History
pub mod Demand
