use Rattle.std.specs.Prelude.{[]}
use Rattle.cql_syntax.specs.Meaning.{values}
use Rattle.cql_syntax.specs.TreeOf.{filters_tree}
use Rattle.cql_syntax.specs.Values.{all_hold}
use Rattle.cql_columns.specs.Scopes.{tree_in}
use Rattle.cql_columns.specs.Columns.{shown}
use Rattle.cql_candidates.specs.Covers.{AreRetained, MayPair}
use Rattle.cql_candidates.proofs.pairs.+retain_paired.Given as goal

abbrev pub invariant-cut_each-loop-part : goal.invariant-cut_each-loop-part
invariant-cut_each-loop-part l =
    AreRetained l.paired.live.now (MayPair l.paired.name.now l.paired.other.now (shown l.paired.column.now) (λ e n. all_hold (values
    (tree_in l.paired.scope.now) [] e (filters_tree l.parts) n))) l.fn.sets l.sets
