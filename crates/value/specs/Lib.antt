-- What the contracts of this crate say: the numbers of expressions, and what evaluation promises of them.
pub mod Values
pub mod Evaluating
pub mod AtOnce
pub mod Memory
