-- A list from an index on: its first element, and the list from the next index on.
-- Assumes nothing.
pub use Rattle.std.proofs.lemmas.List.{drop_more as next}
