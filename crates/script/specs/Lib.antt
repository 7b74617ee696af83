-- What the contracts of this crate say: how the lines of a script are spelled.
pub mod Spelling
pub mod Words
-- What the contracts of this crate say: the line of an answer.
pub mod AnswerText
