-- Lemmas that the proofs of this crate use.
mod WordByWord
mod StepByStep
mod CallsWithoutPath
