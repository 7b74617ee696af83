-- What the contracts of this crate say: what an engine means, what may happen to it, one state of an advance, and the law of runs.
pub mod Meant
pub mod Events
pub mod Advancing
pub mod Law
