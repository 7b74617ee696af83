-- The lemmas: rows of spans and what they mean, the search for a duty, the numbers that are in range, and what answers come to.
pub mod Rows
pub mod NextState
pub mod DerivedEqual
pub mod Searching
pub mod LeftOpen
pub mod Answering
pub mod PlaceTables
