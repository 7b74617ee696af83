-- Lemmas that the proofs of this crate, and of those above it, use.
pub mod RecordOrder
pub mod Halves
