pub mod PlayedRuns
pub mod PlayedIsTrue
pub mod AllTrials
