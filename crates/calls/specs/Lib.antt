-- What the contracts of an engine say: what an engine and a recorder mean, what an answer tells, what each call does,
-- and that the order of visits makes no difference to an advance.
pub mod Standing
pub mod Published
pub mod Calls
pub mod AnyOrder
