-- What the contracts of this crate say: what a line of a table of examples is, how an example stands in a table, and what a text on one line spells.
pub mod Parts
pub mod Blocks
pub mod Packed
