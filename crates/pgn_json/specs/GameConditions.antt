-- The conditions of the laws of lines on a game.
use Rattle.std.specs.Prelude.{ℕ, ◌<◌, List, All}
use Rattle.cq_position.specs.Games.{Node, Game, IsTree, HaveNotes, node_at}
use Rattle.cq_position.specs.Position.{IsPosition}

-- the invariant of the type `Game` on its nodes
pub record HasValidNodes (nodes : List Node) : Type 0 where
  pub tree : IsTree nodes
  pub notes : HaveNotes nodes
  pub start : IsPosition (node_at nodes 0).position

-- a text is of bytes, as each list of `u8` is
abbrev pub AreBytes : List ℕ → Type 0
AreBytes text = All (λ b. b < 256) text

-- the texts of tags and of comments
pub record HasByteTexts (g : Game) : Type 0 where
  pub tags : All (λ t. AreBytes t.0 × AreBytes t.1) g.tags
  pub comments : All (λ n. All AreBytes n.comments) g.nodes
