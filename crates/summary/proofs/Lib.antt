-- Lemmas that the proofs of this crate use.
mod LineLengths
-- What comes of a text, by what its calls promise.
mod ShownRuns
-- A run from its first state on.
mod FirstRuns
