-- What the contracts of this crate say: the work that a board holds, what an answer says of it, and the buckets in which duties are looked for.
pub mod Store
pub mod Work
pub mod Outcomes
pub mod Buckets
