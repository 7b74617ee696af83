-- Lemmas on the lines of a table.
pub mod LinesAlike
