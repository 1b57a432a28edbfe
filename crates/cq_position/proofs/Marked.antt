-- Sets of squares as numbers, and their elements.
pub use Rattle.cq_square_sets.proofs.Marked.{marks_same, marks_none, marks_or, marks_and, marks_one, marks_queen}
