-- Lemmas that the proofs of this crate use.
mod FlatLists
