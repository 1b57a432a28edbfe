use Rattle.std.specs.Prelude.{◌≡◌}
use Rattle.cql_syntax.specs.TreeOf.{filter_tree}
use Rattle.cql_syntax.specs.Values.{square_of}
use Rattle.cql_eval.specs.Internal.Bindings.{holds_with}
use Rattle.cql_columns.specs.Columns.{shown}
use Rattle.cql_columns.proofs.Filling.{FilledTo, of_truths}
use Rattle.cql_eval.proofs.local.local_truths.Given as goal

abbrev pub invariant-loop-n : goal.invariant-loop-n
invariant-loop-n l = record {
  names : l.names ≡ l.binding.scope.now.names.now;
  filled : FilledTo of_truths l.live (λ n. square_of l.binding.every (shown l.binding.squares.now n) (holds_with l.binding (filter_tree l.asked) n)) l.end l.n l.truths.items;
}
