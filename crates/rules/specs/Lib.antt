-- What the contracts of this crate say: what a visit asks of the work before it, what the rule of a statement makes of that work, and whether it waits.
pub mod Visits
