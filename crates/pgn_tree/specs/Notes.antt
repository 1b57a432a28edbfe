-- The notes of a node.
use Rattle.std.specs.Prelude.{ℕ, ◌<◌, List, Option, All}
use Rattle.cq_position.specs.declared.moves.Move.{Move}
use Rattle.cq_position.specs.Board.{Board}
use Rattle.cq_position.specs.Games.{Node, glyph_numbers, IsComment}

-- numeric annotation glyphs and comments
pub record Annotations : Type 0 where
  pub nags : List ℕ
  pub comments : List (List ℕ)

-- the properties of a game's notes
pub record AreKeptAnnotations (n : Annotations) : Type 0 where
  pub nags : All (λ nag. nag < glyph_numbers) n.nags
  pub comments : All IsComment n.comments

-- a node with its notes
abbrev pub annotated_node : Option ℕ → Option Move → Board → Annotations → Node
annotated_node parent led_by position notes =
    record { parent = parent; led_by = led_by; position = position; nags = notes.nags; comments = notes.comments }
