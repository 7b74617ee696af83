-- What the contracts of this crate say: what is taken of a flat list of numbers, and what state a feed's readings make.
pub mod Carried
