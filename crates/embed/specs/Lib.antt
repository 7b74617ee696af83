-- What the contracts of this crate say: answers in numbers, and what each call does.
pub mod Answers
