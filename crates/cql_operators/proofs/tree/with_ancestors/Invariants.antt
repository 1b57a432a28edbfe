use Rattle.std.specs.Prelude.{◌-◌, length}
use Rattle.cql_operators.proofs.Raising.{RaisedTo}
use Rattle.cql_operators.proofs.tree.with_ancestors.Given as goal

abbrev pub invariant-loop-turn : goal.invariant-loop-turn
invariant-loop-turn l = RaisedTo l.game.nodes l.fn.set.items (length l.game.nodes - l.turn) l.found.items
