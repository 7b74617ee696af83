-- What the contract of this crate says: the lines that close the print of a run.
pub mod ClosingText
-- What the contracts of this crate say: runs of the sheets of texts, into any recorder, as text, as numbers, and shown.
pub mod Shown
