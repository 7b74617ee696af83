-- What the contracts of this crate say: what a total order is, and what a search finds.
pub mod Order
