-- Lemmas that belong to no one function; other crates cite them.
pub mod Laws
pub mod Set
pub mod Words
