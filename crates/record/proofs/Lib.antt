-- Lemmas that the proofs of this crate, and of those above it, use.
pub mod TableRows
pub mod TakeRules
-- Lemmas that the proofs of this crate use, and those of its users.
mod PassingLines
pub mod PlacedParts
mod OneMoreState
mod TextLengths
mod ValuePlaces
pub mod ReadBack
mod RecordTexts
