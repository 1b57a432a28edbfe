use Rattle.std.specs.Prelude.{◌≡◌, ℕ, ◌<◌, get_or, [], ◌∷◌, take, drop, length, ◌+◌, ◌-◌, ◌*◌, ◌≤◌}
use Rattle.cql_syntax.specs.Meaning.{value, values, term_values}
use Rattle.cql_syntax.specs.TreeOf.{filter_tree, filter_trees, filters_tree, term_trees, part_trees, body_tree}
use Rattle.cql_syntax.specs.Values.{holds, all_hold, intersection_of}
use Rattle.cql_columns.specs.Scopes.{tree_in}
use Rattle.cql_columns.specs.SquareTrials.{CoverSquares}
use Rattle.cql_columns.specs.Columns.{IsNodeSet, Where, shown, all_shown, terms_shown}
use Rattle.cql_columns.specs.Costs.{filter_cost, filters_cost, terms_cost, parts_cost, body_atoms, searched_len}
use Rattle.cql_columns.specs.FlatTrees.{IsFlat, IsFlatBody}
use Rattle.cql_operators.proofs.SquareTurns.{LeftOf, unsettled_by}
use Rattle.cql_operators.specs.LineAtoms.{HasRoom}
use Rattle.cql_operators.proofs.LineTables.{TableSoFar, row_in, stage}
use Rattle.cql_candidates.specs.Classes.{is_of, is_before, are_as_wanted, cost_of, IsLeft}
use Rattle.cql_syntax.specs.declared.tree.Constituent.{Constituent}
use Rattle.cql_syntax.specs.declared.tree.Filter.{Filter}
use Rattle.cql_syntax.specs.declared.tree.Term.{Term}
use Rattle.cql_candidates.specs.Covers.{AreRetained, MayHave, MayHold}
use Rattle.cql_candidates.specs.Occupancy.{AreOccupancies}
use Rattle.cql_candidates.proofs.CoverSome.{AddedFor}
use Rattle.cql_eval.proofs.Trying.{tried}
use Rattle.cql_eval.proofs.evaluate.+evaluate.Given as goal

abbrev pub invariant-chains::left_by-loop-class : goal.invariant-chains::left_by-loop-class
invariant-chains::left_by-loop-class g l = record {
  occupancies : AreOccupancies (tree_in l.scope) l.left.items l.image_scope.occupancies.now;
  left : IsLeft (tree_in l.scope) l.live (are_as_wanted (is_before l.class) (tree_in l.scope) l.scope.names.now l.want (filters_tree l.filters)) l.left.items;
  cost : l.steps ≤ l.fn.steps + cost_of (is_before l.class) (searched_len (tree_in l.scope)) (filters_tree l.filters);
  rises : l.fn.steps ≤ l.steps;
}

abbrev pub invariant-chains::narrow_by_class-loop-filter : goal.invariant-chains::narrow_by_class-loop-filter
invariant-chains::narrow_by_class-loop-filter g l = record {
  len : length l.left ≡ length l.fn.left;
  occupancies : AreOccupancies (tree_in l.scope) l.left l.image_scope.occupancies.now;
  left : IsLeft (tree_in l.scope) l.fn.left
      (are_as_wanted (is_of l.class) (tree_in l.scope) l.scope.names.now l.image_scope.want (filter_trees (take l.filter-index l.filter-items))) l.left;
  cost : l.steps + cost_of (is_of l.class) (searched_len (tree_in l.scope)) (filter_trees (drop l.filter-index l.filter-items))
      ≤ l.fn.steps + cost_of (is_of l.class) (searched_len (tree_in l.scope)) (filter_trees l.filter-items);
  rises : l.fn.steps ≤ l.steps;
  flat : (i : ℕ) (f : Filter) → i < length l.filter-items → f ≡ get_or l.filter-items i f → IsFlat (filter_tree f);
}

abbrev pub invariant-goals::goal_truths-loop-part : goal.invariant-goals::goal_truths-loop-part
invariant-goals::goal_truths-loop-part g l = record {
  first : l.part-index ≡ 0;
  cost : l.steps ≡ l.fn.steps;
  flat : (i : ℕ) (f : Filter) → i < length l.part-items → f ≡ get_or l.part-items i f → IsFlat (filter_tree f);
}

abbrev pub invariant-chains::columns_of-loop-filter : goal.invariant-chains::columns_of-loop-filter
invariant-chains::columns_of-loop-filter g l = record {
  left : Where l.live (λ n. all_shown l.columns.items n
      ≡ values (tree_in l.scope) [] l.scope.names.now (filter_trees (take l.filter-index l.filter-items)) n);
  cost : l.steps + filters_cost (searched_len (tree_in l.scope)) (filter_trees (drop l.filter-index l.filter-items))
      ≤ l.fn.steps + filters_cost (searched_len (tree_in l.scope)) (filter_trees l.filter-items);
  rises : l.fn.steps ≤ l.steps;
  flat : (i : ℕ) (f : Filter) → i < length l.filter-items → f ≡ get_or l.filter-items i f → IsFlat (filter_tree f);
}

abbrev pub invariant-chains::terms_of-loop-term : goal.invariant-chains::terms_of-loop-term
invariant-chains::terms_of-loop-term g l = record {
  left : Where l.live (λ n. terms_shown l.columns.items n
      ≡ term_values (tree_in l.scope) [] l.scope.names.now (term_trees (take l.term-index l.term-items)) n);
  cost : l.steps + terms_cost (searched_len (tree_in l.scope)) (term_trees (drop l.term-index l.term-items))
      ≤ l.fn.steps + terms_cost (searched_len (tree_in l.scope)) (term_trees l.term-items);
  rises : l.fn.steps ≤ l.steps;
  flat : (i : ℕ) (t : Term) → i < length l.term-items → t ≡ get_or l.term-items i t → IsFlat (filter_tree t.filter);
}

abbrev pub invariant-squares::square_truths-loop-number : goal.invariant-squares::square_truths-loop-number
invariant-squares::square_truths-loop-number g l = record {
  left : LeftOf (tree_in l.binding.scope.now) l.live
      (unsettled_by l.binding.every (shown l.binding.squares.now)
      (λ n s. holds (value (tree_in l.binding.scope.now) [] ((l.binding.name.now, s) ∷ l.binding.scope.now.names.now) (filter_tree l.asked) n)) l.number) l.left.items;
  wanted : CoverSquares (shown l.binding.squares.now) l.left.items l.wanted;
  cost : l.steps + (64 - l.number) * filter_cost (searched_len (tree_in l.binding.scope.now)) (filter_tree l.asked)
      ≤ l.fn.steps + 64 * filter_cost (searched_len (tree_in l.binding.scope.now)) (filter_tree l.asked);
  rises : l.fn.steps ≤ l.steps;
}

abbrev pub invariant-covers::cover_all-loop-class : goal.invariant-covers::cover_all-loop-class
invariant-covers::cover_all-loop-class g l = record {
  cut : AreRetained l.trial.live.now (MayHold l.trial.opened.now l.trial.scope.now.names.now l.trial.name.now
      (λ e n. all_hold (values (tree_in l.trial.scope.now) [] e (filters_tree l.parts) n))) l.fn.sets l.sets;
  cost : l.steps ≡ l.fn.steps;
}

abbrev pub invariant-covers::cover_class-loop-part : goal.invariant-covers::cover_class-loop-part
invariant-covers::cover_class-loop-part g l = record {
  cut : AreRetained l.trial.live.now (MayHold l.trial.opened.now l.trial.scope.now.names.now l.trial.name.now
      (λ e n. all_hold (values (tree_in l.trial.scope.now) [] e (filters_tree l.parts) n))) l.fn.sets l.sets;
  cost : l.steps ≡ l.fn.steps;
  flat : (i : ℕ) (f : Filter) → i < length l.part-items → f ≡ get_or l.part-items i f → IsFlat (filter_tree f);
}

abbrev pub invariant-covers::cover_each-loop-part : goal.invariant-covers::cover_each-loop-part
invariant-covers::cover_each-loop-part g l = record {
  cut : AreRetained l.trial.live.now (MayHave l.trial.opened.now l.trial.scope.now.names.now l.trial.name.now
      (λ e n. intersection_of (values (tree_in l.trial.scope.now) [] e (filters_tree l.parts) n))) l.fn.sets l.sets;
  cost : l.steps ≡ l.fn.steps;
  flat : (i : ℕ) (f : Filter) → i < length l.part-items → f ≡ get_or l.part-items i f → IsFlat (filter_tree f);
}

abbrev pub invariant-cover_some::cover_some-loop-part : goal.invariant-cover_some::cover_some-loop-part
invariant-cover_some::cover_some-loop-part g l = record {
  added : AddedFor (tried l.trial) l.part-items l.part-index l.sets l.initial.kept.items l.kept.items;
  count : length l.kept.items ≡ length l.trial.live.now;
  cost : l.steps ≡ l.fn.steps;
  flat : (i : ℕ) (f : Filter) → i < length l.part-items → f ≡ get_or l.part-items i f → IsFlat (filter_tree f);
}

abbrev pub invariant-lines::put_row-loop-part : goal.invariant-lines::put_row-loop-part
invariant-lines::put_row-loop-part g l = record {
  table : TableSoFar (row_in l.way.scope.now l.way.back l.part-items (stage l.first l.live l.fn.row.met l.fn.row.table)) l.part-index
      (stage l.at l.starts.items l.row.met l.row.table);
  asked : IsNodeSet (tree_in l.way.scope.now) l.starts.items;
  cost : l.steps + parts_cost (searched_len (tree_in l.way.scope.now)) (part_trees (drop l.part-index l.part-items))
      ≤ l.fn.steps + parts_cost (searched_len (tree_in l.way.scope.now)) (part_trees l.part-items);
  rises : l.fn.steps ≤ l.steps;
  flat : (i : ℕ) (c : Constituent) → i < length l.part-items → c ≡ get_or l.part-items i c → IsFlatBody (body_tree c.body);
  room : (c : Constituent) → l.part-index < length l.part-items → c ≡ get_or l.part-items l.part-index c
      → HasRoom (length l.way.scope.now.game.now.nodes) l.at (l.at + body_atoms (body_tree c.body)) l.row.table;
}
