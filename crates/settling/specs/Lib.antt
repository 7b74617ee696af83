-- What the contracts of this crate say: what a skip means, the visits to a list, the setting of a pass, and what settling answers.
pub mod Skipped
pub mod Walks
pub mod Passing
-- What the contracts of this crate say: tables in order for a state to begin, and what a step comes to.
pub mod Ready
pub mod Stepped
