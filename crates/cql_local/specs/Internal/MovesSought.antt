-- The squares of the move to a node, and the moves after which a filter may hold.
use Rattle.std.specs.Prelude.{◌≡◌, ℕ, Bool, true, List, [], Option, Some, None}
use Rattle.cq_position.specs.Games.{Node, node_at}
use Rattle.cq_position.specs.Led.{PlainLed, led_to}
use Rattle.cq_position.specs.Search.{SearchedTree}
use Rattle.cq_symmetry.specs.Images.{is_in}
use Rattle.cql_syntax.specs.Meaning.{Names, value, written_value, meets}
use Rattle.cql_syntax.specs.Trees.{FilterTree, WrittenTree}
use Rattle.cql_syntax.specs.Values.{holds, has}
use Rattle.cql_local.specs.declared.move_ends.MoveEnds.{MoveEnds}
use Rattle.cql_local.specs.declared.moves_sought.MoveConstraint.{MoveConstraint}

-- the move to a node began and ended on these squares, and `before` is the node from which it was played
pub record AreMoveEnds (nodes : List Node) (n : ℕ) (e : MoveEnds) : Type 0 where
  pub led : PlainLed
  pub is : led_to nodes n ≡ Some led
  pub origin : led.origin ≡ e.origin
  pub goal : led.goal ≡ e.goal
  pub before : (node_at nodes n).parent ≡ Some e.before

-- a square is in the set; without a set, every square is allowed
abbrev pub allows : Option ℕ → ℕ → Bool
allows None s = true
allows (Some set) s = is_in set s

-- a filter has these squares at all nodes
pub record IsBound (e : Names) (f : FilterTree) (set : ℕ) : Type 0 where
  pub same : (tree : SearchedTree) (n : ℕ) → has (value tree [] e f n) ≡ is_in set

-- a part of a move agrees with no square but those allowed
pub record MayMeet (e : Names) (w : WrittenTree) (set : Option ℕ) : Type 0 where
  pub keeps : (tree : SearchedTree) (n s : ℕ) → meets (written_value tree [] e w n) (Some s) ≡ true → allows set s ≡ true

-- a move that satisfies the constraint led to the node
pub record LedByAllowedMove (moves : MoveConstraint) (nodes : List Node) (n : ℕ) : Type 0 where
  pub led : PlainLed
  pub is : led_to nodes n ≡ Some led
  pub origin : allows moves.origins led.origin ≡ true
  pub goal : allows moves.goals led.goal ≡ true

-- a filter holds only after moves that satisfy the constraint
pub record HoldsAfterMoves (e : Names) (f : FilterTree) (moves : MoveConstraint) : Type 0 where
  pub led : moves.moved ≡ true → (tree : SearchedTree) (n : ℕ) → holds (value tree [] e f n) ≡ true → LedByAllowedMove moves tree.game.nodes n
