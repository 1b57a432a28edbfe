-- The rows, by computation.
use Rattle.std.proofs.Common.{refl}
use Rattle.cql_syntax.specs.FaultExamples.{RuleExamples, LimitExamples}
use Rattle.cql_syntax.specs.Occurrences as walk
use Rattle.cql_syntax.specs.TreeFaults as faults

pub rule_rows : RuleExamples
unfolding walk.occurrences walk.inner walk.of_items faults.tree_faults faults.tree_fault
rule_rows = record {
  none = refl;
  wrong_kind = refl;
  outer_first = refl;
  left_first = refl;
  text_first = refl;
  sort_in_braces = refl;
  comment_below_top = refl;
  kind_before_top = refl;
  comment_with_brace = refl;
  four_sorts = refl;
  fifth_sort = refl;
  unbound = refl;
  bound = refl;
  bound_twice = refl;
  outside_its_square = refl;
  in_the_squares = refl;
}

pub limit_rows : LimitExamples
unfolding walk.occurrences walk.inner walk.of_items faults.tree_faults faults.tree_fault
limit_rows = record {
  longest_line = refl;
  line_too_long = refl;
  none_of_the_last_counts = refl;
  line_in_a_line = refl;
  outer_line_first = refl;
  name_before_line = refl;
  four_squares = refl;
  fifth_square = refl;
  sixth_square = refl;
  line_before_square = refl;
  greatest_weight = refl;
  too_heavy = refl;
  square_before_weight = refl;
}
