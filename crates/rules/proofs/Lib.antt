-- A statement of a sheet keeps its rules, what an `always` goes by, and the spans that rounds open.
pub mod StatementRules
pub mod KnownEnds
pub mod OpenedSpans
