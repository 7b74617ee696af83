-- What the contracts of this crate say: the rules of a recorder, how a table holds its states, and what a call leaves to the owner.
pub mod Rules
pub mod Rows
pub mod Owned
-- What the contracts of this crate say: how a record is written, how it is read back, and what it is to write a part of it.
pub mod StatesText
pub mod ReadingBack
pub mod Placing
