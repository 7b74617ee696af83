-- The lemmas: on sizes of numbers, on tables, on the numbers of expressions, on telling one at once, and on working one out.
pub mod Magnitudes
pub mod EntryByEntry
pub mod Numbers
pub mod AtOnce
pub mod WorkingOut
