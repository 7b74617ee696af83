-- What the contracts of this crate say: where readings are, when feeds are equal, and what a list of records reads.
pub mod Readings
pub mod Lists
