-- Squares that are tried under a name, in the form that the private functions use.
use Rattle.std.specs.Prelude.{ℕ, Bool, List}
use Rattle.cq_position.specs.Search.{SearchedTree}
use Rattle.cql_syntax.specs.Meaning.{Names}
use Rattle.cql_syntax.specs.TreeOf.{written_tree}
use Rattle.cql_syntax.specs.Values.{Value}
use Rattle.cql_syntax.specs.declared.tree.Played.{Played, out-Played}
use Rattle.cql_operators.specs.Trees.{AreBeforeLive}
use Rattle.cql_candidates.specs.Covers.{AreRetained, IsNecessaryPart, MayHold, MayHave}
use Rattle.cql_candidates.specs.declared.moves.PartColumns.{PartColumns}
use Rattle.cql_eval.specs.declared.evaluate.trial.Trial.{Trial}

-- some squares are removed from the sets, none with which the values may hold
abbrev pub LeavesHolding : Trial → (Names → ℕ → Value) → List ℕ → List ℕ → Type 0
LeavesHolding t v old new = AreRetained t.live.now (MayHold t.opened.now t.scope.now.names.now t.name.now v) old new

-- some squares are removed from the sets, none that the values may have
abbrev pub LeavesHaving : Trial → (Names → ℕ → Value) → List ℕ → List ℕ → Type 0
LeavesHaving t v old new = AreRetained t.live.now (MayHave t.opened.now t.scope.now.names.now t.name.now v) old new

-- The columns of the parts of a move, without its goal, are necessary conditions at the nodes of a set to which moves led. The origin and
-- the man taken are evaluated at the node before.
pub record AreNecessaryParts (tree : SearchedTree) (opened outer : Names) (p : Played) (live : List Bool) (parts : PartColumns) : Type 0 where
  pub wide : List Bool
  pub before_live : AreBeforeLive tree live wide
  pub origin : IsNecessaryPart tree opened outer (written_tree (out-Played p).origin) wide parts.origin
  pub taken : IsNecessaryPart tree opened outer (written_tree (out-Played p).taken) wide parts.taken
  pub promoted : IsNecessaryPart tree opened outer (written_tree (out-Played p).promoted) live parts.promoted
