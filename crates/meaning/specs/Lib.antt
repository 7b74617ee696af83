-- What a sheet means, how a state is settled, and the laws that join the two and say that the order of visits makes no difference.
-- A reader has to believe these files, in this order, and nothing in proofs/. Order and Waiting are for the contracts of inner code alone.
pub mod Intervals
pub mod Holds
pub mod Work
pub mod Effects
pub mod Rules
pub mod Passes
pub mod Members
pub mod Visiting
pub mod Runs
pub mod Laws
pub mod AnyOrder
pub mod WellFormed
pub mod Waiting
