-- The view of notes in contracts.
use Rattle.std.specs.Prelude.{ℕ, ◌<◌, ◌≤◌, List, All}
use Rattle.cq_position.specs.Games.{glyph_numbers}
use Rattle.pgn_tree.specs.declared.notes.Notes.TheInside.{Inside}
use Rattle.pgn_tree.specs.Notes.{Annotations}

abbrev pub notes_inside : Inside → Annotations
notes_inside n = record { nags = n.nags.items; comments = n.comments }

-- the list of glyphs has capacity for four, and each glyph is a byte
pub record HaveRoom (n : Inside) : Type 0 where
  pub room : 4 ≤ n.nags.capacity
  pub bytes : All (λ nag. nag < glyph_numbers) n.nags.items
