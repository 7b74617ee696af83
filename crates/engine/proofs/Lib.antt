-- Lemmas that the proofs of this crate use: one state more, the law of runs, and what a load, a begin and an abandon come to.
pub mod OneMoreState
pub mod LawOfRuns
pub mod CallsByCondition
