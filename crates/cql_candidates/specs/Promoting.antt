-- Nodes to which a promotion led.
use Rattle.std.specs.Prelude.{◌≡◌, ℕ, ◌&&◌, ◌||◌, not, Bool, false, List, Option, None, Some}
use Rattle.cq_position.specs.Games.{node_at}
use Rattle.cq_position.specs.Legal.{is_none}
use Rattle.cq_position.specs.Search.{SearchedTree}
use Rattle.cq_position.specs.declared.moves.Move.{Move}
use Rattle.cql_columns.specs.Columns.{is_live, IsNodeSet}

-- true if there is a move, and it is a promotion
abbrev pub is_promotion : Option Move → Bool
is_promotion None = false
is_promotion (Some m) = not (is_none m.promotion)

-- the live nodes or, if only promotions are wanted, those of them to which one led
pub record ArePromoting (tree : SearchedTree) (wanted : Bool) (live some : List Bool) : Type 0 where
  pub asked : IsNodeSet tree some
  pub each : (n : ℕ) → is_live some n ≡ (is_live live n && (not wanted || is_promotion (node_at tree.game.nodes n).led_by))
