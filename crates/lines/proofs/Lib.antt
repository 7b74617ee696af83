pub mod KeyAndWords
-- Lemmas that the proof of this crate's law uses.
pub mod FaultTries
pub mod FaultOrder
pub mod LineStages
pub mod FirstFault
