-- Lemmas that the proof of the law of runs uses.
pub mod Moments
pub mod CallsKeepMoments
pub mod AdvancesAlike
