-- The values and costs of forms of filters, in the recursion over filters.
use Rattle.std.proofs.Common.{rules, [], ◌∷◌, ◌&&◌, ◌∙◌, ap, ap₂, sym, subst, refl, arith}
use Rattle.std.specs.Prelude.{IfOk, is_some}
use Rattle.cq_position.specs.Games.{node_at}
use Rattle.cql_syntax.specs.Meaning.{value}
use Rattle.cql_syntax.specs.TreeOf.{filter_tree, form_tree, filters_tree}
use Rattle.cql_syntax.specs.Trees.{filter_at, unary, direction, pair, square, if_}
use Rattle.cql_syntax.specs.Values.{amount, as_number, as_truth, holds, square_of, chain_of, pair_of, any_of, reached_of, total_of}
use Rattle.cql_columns.specs.Scopes.{tree_in, value_in, values_in}
use Rattle.cql_values.proofs.Evaluated.{word_here}
use Rattle.cql_columns.specs.Columns.{AreTruths, IsColumn, is_live, is_as_wanted, shown}
use Rattle.cql_columns.specs.Costs.{filter_cost, searched_len}
use Rattle.cql_operators.proofs.SquareTurns.{unary_form, square_form, if_form}
use Rattle.cql_eval.proofs.FlatLaw.{no_family}
use Rattle.cql_eval.proofs.HitsLaw.{sort_form}
use Rattle.cql_operators.proofs.Lives.{none_live}
use Rattle.cql_eval.proofs.FormLaws.{IfOk_then, number_form, elo_form, comment_form, pair_form, parts_form, designator_form, plain_form, direction_form, chain_form, sum_form, line_form, played_form, sorted_form, any_form, if_where, part_form, if_parts, within, within_first, within_both}
use Rattle.cql_operators.specs.OtherNodes.{is_from_other_nodes, CoverSourceNodes}
use Rattle.cql_eval.proofs.evaluate.+evaluate.Goals as goal

pub unary_column-returns-then-reads_other_nodes-clause-value : goal.unary_column-returns-then-reads_other_nodes-clause-value
unary_column-returns-then-reads_other_nodes-clause-value g t c =
    IfOk_then c.found_column.result c.found_column.ensures
    (λ found is. is (value_in c.args.scope.now (filter_tree c.args.part.now)) c.in_ok-column.ensures.value c.args.live.now c.requires.asked
    (subst (CoverSourceNodes (tree_in c.args.scope.now) c.args.word c.args.live.now) (sym c.as_slice-wide.ensures.value) c.in_ok-wide.ensures))

pub unary_column-returns-clause-value : goal.unary_column-returns-clause-value
unary_column-returns-clause-value g t c =
    let here = sym c.reads_other_nodes.ensures ∙ c.if-reads_other_nodes.false in
    IfOk_then c.here_column.result c.here_column.ensures
    (λ column is n l. is n l
    ∙ word_here (tree_in c.args.scope.now) c.args.word (value_in c.args.scope.now (filter_tree c.args.part.now)) n (shown c.in_ok-column-2.column n)
    (λ e. let no = sym (ap is_from_other_nodes e) ∙ here in cc) (λ e. let no = sym (ap is_from_other_nodes e) ∙ here in cc)
    (λ e. let no = sym (ap is_from_other_nodes e) ∙ here in cc) (λ e. let no = sym (ap is_from_other_nodes e) ∙ here in cc)
    (c.in_ok-column-2.ensures.value n l))

pub column_where-returns-clause-value : goal.column_where-returns-clause-value
column_where-returns-clause-value g t c =
    IfOk_then c.evaluate.result c.evaluate.ensures.value
    (λ column is n l so. is n (ap (λ x. is_live x n) c.deref.ensures.value ∙ c.in_ok-there.ensures.narrowed.each n
    ∙ ap (λ b. b && is_as_wanted c.args.want (holds (shown c.args.first.now n))) l ∙ so))

pub chain_column-returns-in-Or-clause-value : goal.chain_column-returns-in-Or-clause-value
chain_column-returns-in-Or-clause-value g t c =
    IfOk_then c.some_column.result c.some_column.ensures.value
    (λ column is n l. is n l ∙ ap (λ chain. chain_of chain (values_in c.args.scope.now (filters_tree c.args.parts.now) n)) (sym c.in-Or.is))

pub chain_column-returns-in_ok-columns-in_default-clause-value : goal.chain_column-returns-in_ok-columns-in_default-clause-value
chain_column-returns-in_ok-columns-in_default-clause-value g t c =
    IfOk_then c.chain_values_column.result c.chain_values_column.ensures
    (λ column is n l. is n l
    ∙ ap (chain_of c.args.chain) (c.in_ok-columns-in_default.ensures.value n l))

pub any_column-returns-in-Position-clause-value : goal.any_column-returns-in-Position-clause-value
any_column-returns-in-Position-clause-value g t c =
    IfOk_then c.some_column.result c.some_column.ensures.value
    (λ column is n l. is n l ∙ ap (λ kind. any_of kind (values_in c.args.scope.now (filters_tree c.args.parts.now) n)) (sym c.in-Position.is))

pub any_column-returns-in_ok-columns-in_default-clause-value : goal.any_column-returns-in_ok-columns-in_default-clause-value
any_column-returns-in_ok-columns-in_default-clause-value g t c =
    IfOk_then c.any_values_column.result c.any_values_column.ensures
    (λ column is n l. is n l
    ∙ ap (any_of c.args.kind) (c.in_ok-columns-in_default.ensures.value n l))

pub evaluate-returns-in-Unary : goal.evaluate-returns-in-Unary
unfolding filter_cost
evaluate-returns-in-Unary g t c = record {
  value = (let f = c.args.f.now in
      let part = c.deref.result.now in
      subst (λ v. IfOk c.unary_column.result (λ x. IsColumn x c.args.live.now v))
      (unary_form (tree_in c.args.scope.now) c.args.scope.now.names.now (filter_tree f) (filter_tree part) f.at c.in-Unary.word
      (ap (λ form. filter_at f.at (form_tree form)) c.in-Unary.is ∙ ap (λ p. filter_at f.at (unary c.in-Unary.word (filter_tree p))) (sym c.deref.ensures)))
      c.unary_column.ensures.value);
  cost = within _ _ _ _ (ap (filter_cost (searched_len (tree_in c.args.scope.now))) (part_form c.args.f.now.at (form_tree c.args.f.now.form) (unary c.in-Unary.word) _ c.deref.result.now (ap form_tree c.in-Unary.is) c.deref.ensures)) c.unary_column.ensures.cost;
  rises = c.unary_column.ensures.rises;
}

pub evaluate-returns-in_ok-truths-in-Square : goal.evaluate-returns-in_ok-truths-in-Square
unfolding filter_cost
evaluate-returns-in_ok-truths-in-Square g t c = record {
  value = λ n l.
      let f = c.args.f.now in
      let every = c.in-Square.every in
      let text = c.as_slice-in-Square.result.now in
      let a = c.deref-in-Square.result.now in
      let b = c.deref-in-Square-2.result.now in
      subst (λ r. IfOk r (λ truths. AreTruths truths.items c.args.live.now (λ n. square_of every (shown c.in_ok-squares-in-Square.squares n)
      (λ s. holds (value (tree_in c.args.scope.now) [] ((text, s) ∷ c.args.scope.now.names.now) (filter_tree b) n))))) c.in_ok-truths-in-Square.was
      c.square_filter_truths-truths.ensures.value n l
      ∙ ap (λ x. square_of every x (λ s. holds (value (tree_in c.args.scope.now) [] ((text, s) ∷ c.args.scope.now.names.now)
      (filter_tree b) n))) (c.in_ok-squares-in-Square.ensures.value n l)
      ∙ square_form (tree_in c.args.scope.now) c.args.scope.now.names.now (filter_tree f) (filter_tree a) (filter_tree b) f.at every text
      (ap (λ form. filter_at f.at (form_tree form)) c.in-Square.is
      ∙ ap (λ x. filter_at f.at (square every x (filter_tree c.in-Square.squares.value) (filter_tree c.in-Square.asked.value))) (sym c.as_slice-in-Square.ensures)
      ∙ ap₂ (λ p q. filter_at f.at (square every text (filter_tree p) (filter_tree q))) (sym c.deref-in-Square.ensures) (sym c.deref-in-Square-2.ensures)) n;
  cost = within_both _ _ _ _ _ _ (ap (filter_cost (searched_len (tree_in c.args.scope.now))) (parts_form c.args.f.now.at (form_tree c.args.f.now.form) (square c.in-Square.every c.in-Square.name) _ _ c.deref-in-Square.result.now c.deref-in-Square-2.result.now (ap form_tree c.in-Square.is) c.deref-in-Square.ensures c.deref-in-Square-2.ensures))
      c.evaluate-in-Square.ensures.cost c.square_filter_truths-truths.ensures.cost;
  rises = omega (arith, c.evaluate-in-Square.ensures.rises, c.square_filter_truths-truths.ensures.rises);
}

pub evaluate-returns-in-Squares : goal.evaluate-returns-in-Squares
evaluate-returns-in-Squares g t c = record {
  value = IfOk_then c.standing_column.result c.standing_column.ensures
      (λ column is n l. is n l ∙ designator_form (tree_in c.args.scope.now) c.args.scope.now.names.now (filter_tree c.args.f.now) c.args.f.now.at _
      (ap (λ form. filter_at c.args.f.now.at (form_tree form)) c.in-Squares.is) n);
  cost = omega arith;
  rises = omega arith;
}

pub evaluate-returns-in-Plain : goal.evaluate-returns-in-Plain
evaluate-returns-in-Plain g t c = record {
  value = IfOk_then c.word_column.result c.word_column.ensures
      (λ column is n l. is n l ∙ plain_form (tree_in c.args.scope.now) c.args.scope.now.names.now (filter_tree c.args.f.now) c.args.f.now.at _
      (ap (λ form. filter_at c.args.f.now.at (form_tree form)) c.in-Plain.is) n);
  cost = omega arith;
  rises = omega arith;
}

pub evaluate-returns-in-Played : goal.evaluate-returns-in-Played
unfolding filter_cost
evaluate-returns-in-Played g t c = record {
  value = IfOk_then c.played_column.result c.played_column.ensures.value
      (λ column is n l. is n l ∙ played_form (tree_in c.args.scope.now) c.args.scope.now.names.now (filter_tree c.args.f.now) c.args.f.now.at _
      (ap (λ form. filter_at c.args.f.now.at (form_tree form)) c.in-Played.is) n);
  cost = within _ _ _ _ (ap (filter_cost (searched_len (tree_in c.args.scope.now))) (ap (filter_at c.args.f.now.at) (ap form_tree c.in-Played.is))) c.played_column.ensures.cost;
  rises = c.played_column.ensures.rises;
}

pub evaluate-returns-in-Line : goal.evaluate-returns-in-Line
unfolding filter_cost
evaluate-returns-in-Line g t c = record {
  value = IfOk_then c.line_column.result c.line_column.ensures.value
      (λ column is n l. is n l ∙ line_form (tree_in c.args.scope.now) c.args.scope.now.names.now (filter_tree c.args.f.now) c.args.f.now.at _
      (ap (λ form. filter_at c.args.f.now.at (form_tree form)) c.in-Line.is) n);
  cost = within _ _ _ _ (ap (filter_cost (searched_len (tree_in c.args.scope.now))) (ap (filter_at c.args.f.now.at) (ap form_tree c.in-Line.is))) c.line_column.ensures.cost;
  rises = c.line_column.ensures.rises;
}

pub evaluate-returns-in_ok-column-in-Steps : goal.evaluate-returns-in_ok-column-in-Steps
unfolding filter_cost
evaluate-returns-in_ok-column-in-Steps g t c = record {
  value = (let f = c.args.f.now in
      let part = c.deref-in-Steps.result.now in
      IfOk_then c.reached_column.result c.reached_column.ensures
      (λ column is n l. is n l
      ∙ ap₂ (λ ways v. reached_of ways c.in-Steps.m c.in-Steps.n v) c.directions.ensures (c.in_ok-column-in-Steps.ensures.value n l)
      ∙ direction_form (tree_in c.args.scope.now) c.args.scope.now.names.now (filter_tree f) (filter_tree part) f.at c.in-Steps.way c.in-Steps.m c.in-Steps.n
      (ap (λ form. filter_at f.at (form_tree form)) c.in-Steps.is
      ∙ ap (λ p. filter_at f.at (direction c.in-Steps.way c.in-Steps.m c.in-Steps.n (filter_tree p))) (sym c.deref-in-Steps.ensures)) n));
  cost = within _ _ _ _ (ap (filter_cost (searched_len (tree_in c.args.scope.now))) (part_form c.args.f.now.at (form_tree c.args.f.now.form) (direction c.in-Steps.way c.in-Steps.m c.in-Steps.n) _ c.deref-in-Steps.result.now (ap form_tree c.in-Steps.is) c.deref-in-Steps.ensures))
      c.evaluate.ensures.cost;
  rises = c.evaluate.ensures.rises;
}

pub evaluate-returns-in_ok-columns-in-Sum : goal.evaluate-returns-in_ok-columns-in-Sum
unfolding filter_cost
evaluate-returns-in_ok-columns-in-Sum g t c = record {
  value = IfOk_then c.sum_column.result c.sum_column.ensures
      (λ column is n l. is n l
      ∙ ap total_of (c.in_ok-columns-in-Sum.ensures.value n l)
      ∙ sum_form (tree_in c.args.scope.now) c.args.scope.now.names.now (filter_tree c.args.f.now) c.args.f.now.at _
      (ap (λ form. filter_at c.args.f.now.at (form_tree form)) c.in-Sum.is) n);
  cost = within _ _ _ _ (ap (filter_cost (searched_len (tree_in c.args.scope.now))) (ap (filter_at c.args.f.now.at) (ap form_tree c.in-Sum.is))) c.terms_of.ensures.cost;
  rises = c.terms_of.ensures.rises;
}

pub evaluate-returns-in_ok-column-in-Sort : goal.evaluate-returns-in_ok-column-in-Sort
unfolding filter_cost
evaluate-returns-in_ok-column-in-Sort g t c = record {
  value = (let f = c.args.f.now in
      let part = c.deref-in-Sort.result.now in
      IfOk_then c.numbered_column.result c.numbered_column.ensures
      (λ column is n l. is n l ∙ ap (λ v. as_truth (is_some (amount v))) (c.in_ok-column-in-Sort.ensures.value n l)
      ∙ sorted_form (tree_in c.args.scope.now) c.args.scope.now.names.now (filter_tree f) (filter_tree part) f.at _ _
      (ap (filter_at f.at) (sort_form _ _ _ _ _ (ap form_tree c.in-Sort.is) (ap filter_tree (sym c.deref-in-Sort.ensures)))) n));
  cost = within _ _ _ _ (ap (filter_cost (searched_len (tree_in c.args.scope.now))) (ap (filter_at c.args.f.now.at)
      (sort_form _ _ _ _ _ (ap form_tree c.in-Sort.is) (ap filter_tree (sym c.deref-in-Sort.ensures))))) c.evaluate-in-Sort.ensures.cost;
  rises = c.evaluate-in-Sort.ensures.rises;
}

pub evaluate-returns-in_ok-third-in-If : goal.evaluate-returns-in_ok-third-in-If
unfolding filter_cost
evaluate-returns-in_ok-third-in-If g t c = record {
  value = (let f = c.args.f.now in
      let x = c.deref-in-If.result.now in
      let y = c.deref-in-If-2.result.now in
      let z = c.deref-in-If-3.result.now in
      IfOk_then c.chosen_column.result c.chosen_column.ensures
      (λ column is n l. is n l
      ∙ if_where c.args.live.now c.in_ok-first-in-If.first c.in_ok-second-in-If.second c.in_ok-third-in-If.third
      (value_in c.args.scope.now (filter_tree x)) (value_in c.args.scope.now (filter_tree y)) (value_in c.args.scope.now (filter_tree z))
      c.in_ok-first-in-If.ensures.value c.in_ok-second-in-If.ensures.value c.in_ok-third-in-If.ensures.value n l
      ∙ if_form (tree_in c.args.scope.now) c.args.scope.now.names.now (filter_tree f) (filter_tree x) (filter_tree y) (filter_tree z) f.at
      (ap (λ form. filter_at f.at (form_tree form)) c.in-If.is
      ∙ ap (λ p. filter_at f.at (if_ (filter_tree p) (filter_tree c.in-If.then.value) (filter_tree c.in-If.otherwise.value))) (sym c.deref-in-If.ensures)
      ∙ ap₂ (λ p q. filter_at f.at (if_ (filter_tree x) (filter_tree p) (filter_tree q))) (sym c.deref-in-If-2.ensures) (sym c.deref-in-If-3.ensures)) n));
  cost = within_both _ _ _ _ _ _ (ap (filter_cost (searched_len (tree_in c.args.scope.now))) (if_parts c.args.f.now.at (form_tree c.args.f.now.form) _ _ _ c.deref-in-If.result.now c.deref-in-If-2.result.now c.deref-in-If-3.result.now (ap form_tree c.in-If.is) c.deref-in-If.ensures c.deref-in-If-2.ensures c.deref-in-If-3.ensures))
      (within_both _ _ _ _ _ _ refl c.evaluate-in-If.ensures.cost c.column_where.ensures.cost) c.column_where-in-If.ensures.cost;
  rises = omega (arith, c.evaluate-in-If.ensures.rises, c.column_where.ensures.rises, c.column_where-in-If.ensures.rises);
}

pub evaluate-returns-in-Number : goal.evaluate-returns-in-Number
evaluate-returns-in-Number g t c = record {
  value = λ n l.
      c.count_value.ensures
      ∙ number_form (tree_in c.args.scope.now) c.args.scope.now.names.now (filter_tree c.args.f.now) c.args.f.now.at _ (ap (λ form. filter_at c.args.f.now.at (form_tree form)) c.in-Number.is) n;
  cost = omega arith;
  rises = omega arith;
}

pub evaluate-returns-in-Comment : goal.evaluate-returns-in-Comment
evaluate-returns-in-Comment g t c = record {
  value = λ n l.
      comment_form (tree_in c.args.scope.now) c.args.scope.now.names.now (filter_tree c.args.f.now) c.args.f.now.at _ (ap (λ form. filter_at c.args.f.now.at (form_tree form)) c.in-Comment.is) n;
  cost = omega arith;
  rises = omega arith;
}

pub evaluate-returns-in-Elo : goal.evaluate-returns-in-Elo
evaluate-returns-in-Elo g t c = record {
  value = λ n l.
      ap as_number c.rating.ensures
      ∙ elo_form (tree_in c.args.scope.now) c.args.scope.now.names.now (filter_tree c.args.f.now) c.args.f.now.at _ (ap (λ form. filter_at c.args.f.now.at (form_tree form)) c.in-Elo.is) n;
  cost = omega arith;
  rises = omega arith;
}

pub evaluate-returns-in_ok-second-in-Pair : goal.evaluate-returns-in_ok-second-in-Pair
unfolding filter_cost
evaluate-returns-in_ok-second-in-Pair g t c = record {
  value = (let f = c.args.f.now in
      let a = c.deref-in-Pair.result.now in
      let b = c.deref-in-Pair-2.result.now in
      IfOk_then c.paired_column.result c.paired_column.ensures
      (λ column is n l. is n l
      ∙ ap₂ (λ x y. pair_of (node_at c.args.scope.now.game.now.nodes n).position.men c.in-Pair.pair x y)
      (c.in_ok-first-in-Pair.ensures.value n l) (c.in_ok-second-in-Pair.ensures.value n l)
      ∙ pair_form (tree_in c.args.scope.now) c.args.scope.now.names.now (filter_tree f) (filter_tree a) (filter_tree b) f.at c.in-Pair.pair
      (parts_form f.at (form_tree f.form) (pair c.in-Pair.pair) _ _ a b (ap form_tree c.in-Pair.is) c.deref-in-Pair.ensures c.deref-in-Pair-2.ensures) n));
  cost = within_both _ _ _ _ _ _ (ap (filter_cost (searched_len (tree_in c.args.scope.now))) (parts_form c.args.f.now.at (form_tree c.args.f.now.form) (pair c.in-Pair.pair) _ _ c.deref-in-Pair.result.now c.deref-in-Pair-2.result.now (ap form_tree c.in-Pair.is) c.deref-in-Pair.ensures c.deref-in-Pair-2.ensures))
      c.evaluate-in-Pair.ensures.cost c.evaluate-in-Pair-2.ensures.cost;
  rises = omega (arith, c.evaluate-in-Pair.ensures.rises, c.evaluate-in-Pair-2.ensures.rises);
}

pub evaluate-returns-then-not-any_live : goal.evaluate-returns-then-not-any_live
evaluate-returns-then-not-any_live g t c = record {
  value = λ n l. absurd (none_live c.args.live.now (sym c.any_live.ensures ∙ c.if-not-any_live.true) n l);
  cost = omega arith;
  rises = omega arith;
}

pub evaluate-returns-in-Transform : goal.evaluate-returns-in-Transform
evaluate-returns-in-Transform g t c = record {
  value = absurd (no_family c.args.f.now.at (form_tree c.args.f.now.form) _ _ (ap form_tree c.in-Transform.is) c.requires.flat);
  cost = omega arith;
  rises = omega arith;
}

pub evaluate-returns-in-Chain : goal.evaluate-returns-in-Chain
unfolding filter_cost
evaluate-returns-in-Chain g t c = record {
  value = (let f = c.args.f.now in
      subst (λ v. IfOk c.chain_column.result (λ x. IsColumn x c.args.live.now v))
      (chain_form (tree_in c.args.scope.now) c.args.scope.now.names.now (filter_tree f) f.at c.in-Chain.chain (filters_tree c.in-Chain.parts)
      (ap (λ form. filter_at f.at (form_tree form)) c.in-Chain.is))
      c.chain_column.ensures.value);
  cost = within _ _ _ _ (ap (filter_cost (searched_len (tree_in c.args.scope.now))) (ap (filter_at c.args.f.now.at) (ap form_tree c.in-Chain.is))) c.chain_column.ensures.cost;
  rises = c.chain_column.ensures.rises;
}

pub evaluate-returns-in-Any : goal.evaluate-returns-in-Any
unfolding filter_cost
evaluate-returns-in-Any g t c = record {
  value = (let f = c.args.f.now in
      subst (λ v. IfOk c.any_column.result (λ x. IsColumn x c.args.live.now v))
      (any_form (tree_in c.args.scope.now) c.args.scope.now.names.now (filter_tree f) f.at c.in-Any.kind (filters_tree c.in-Any.parts)
      (ap (λ form. filter_at f.at (form_tree form)) c.in-Any.is))
      c.any_column.ensures.value);
  cost = within _ _ _ _ (ap (filter_cost (searched_len (tree_in c.args.scope.now))) (ap (filter_at c.args.f.now.at) (ap form_tree c.in-Any.is))) c.any_column.ensures.cost;
  rises = c.any_column.ensures.rises;
}

pub evaluate-returns-in_err-columns-in-Sum : goal.evaluate-returns-in_err-columns-in-Sum
unfolding filter_cost
evaluate-returns-in_err-columns-in-Sum g t c = record {
  value = search rules;
  cost = within _ _ _ _ (ap (filter_cost (searched_len (tree_in c.args.scope.now))) (ap (filter_at c.args.f.now.at) (ap form_tree c.in-Sum.is))) c.terms_of.ensures.cost;
  rises = c.terms_of.ensures.rises;
}

pub evaluate-returns-in_err-column-in-Steps : goal.evaluate-returns-in_err-column-in-Steps
unfolding filter_cost
evaluate-returns-in_err-column-in-Steps g t c = record {
  value = search rules;
  cost = within _ _ _ _ (ap (filter_cost (searched_len (tree_in c.args.scope.now))) (part_form c.args.f.now.at (form_tree c.args.f.now.form) (direction c.in-Steps.way c.in-Steps.m c.in-Steps.n) _ c.deref-in-Steps.result.now (ap form_tree c.in-Steps.is) c.deref-in-Steps.ensures))
      c.evaluate.ensures.cost;
  rises = c.evaluate.ensures.rises;
}

pub evaluate-returns-in_err-column-in-Sort : goal.evaluate-returns-in_err-column-in-Sort
unfolding filter_cost
evaluate-returns-in_err-column-in-Sort g t c = record {
  value = search rules;
  cost = within _ _ _ _ (ap (filter_cost (searched_len (tree_in c.args.scope.now))) (ap (filter_at c.args.f.now.at)
      (sort_form _ _ _ _ _ (ap form_tree c.in-Sort.is) (ap filter_tree (sym c.deref-in-Sort.ensures))))) c.evaluate-in-Sort.ensures.cost;
  rises = c.evaluate-in-Sort.ensures.rises;
}

pub evaluate-returns-in_err-first-in-Pair : goal.evaluate-returns-in_err-first-in-Pair
unfolding filter_cost
evaluate-returns-in_err-first-in-Pair g t c = record {
  value = search rules;
  cost = within_first _ _ _ _ _ (ap (filter_cost (searched_len (tree_in c.args.scope.now))) (parts_form c.args.f.now.at (form_tree c.args.f.now.form) (pair c.in-Pair.pair) _ _ c.deref-in-Pair.result.now _ (ap form_tree c.in-Pair.is) c.deref-in-Pair.ensures refl))
      c.evaluate-in-Pair.ensures.cost;
  rises = c.evaluate-in-Pair.ensures.rises;
}

pub evaluate-returns-in_err-second-in-Pair : goal.evaluate-returns-in_err-second-in-Pair
unfolding filter_cost
evaluate-returns-in_err-second-in-Pair g t c = record {
  value = search rules;
  cost = within_both _ _ _ _ _ _ (ap (filter_cost (searched_len (tree_in c.args.scope.now))) (parts_form c.args.f.now.at (form_tree c.args.f.now.form) (pair c.in-Pair.pair) _ _ c.deref-in-Pair.result.now c.deref-in-Pair-2.result.now (ap form_tree c.in-Pair.is) c.deref-in-Pair.ensures c.deref-in-Pair-2.ensures))
      c.evaluate-in-Pair.ensures.cost c.evaluate-in-Pair-2.ensures.cost;
  rises = omega (arith, c.evaluate-in-Pair.ensures.rises, c.evaluate-in-Pair-2.ensures.rises);
}

pub evaluate-returns-in_err-squares-in-Square : goal.evaluate-returns-in_err-squares-in-Square
unfolding filter_cost
evaluate-returns-in_err-squares-in-Square g t c = record {
  value = search rules;
  cost = within_first _ _ _ _ _ (ap (filter_cost (searched_len (tree_in c.args.scope.now))) (parts_form c.args.f.now.at (form_tree c.args.f.now.form) (square c.in-Square.every c.in-Square.name) _ _ c.deref-in-Square.result.now _ (ap form_tree c.in-Square.is) c.deref-in-Square.ensures refl))
      c.evaluate-in-Square.ensures.cost;
  rises = c.evaluate-in-Square.ensures.rises;
}

pub evaluate-returns-in_err-truths-in-Square : goal.evaluate-returns-in_err-truths-in-Square
unfolding filter_cost
evaluate-returns-in_err-truths-in-Square g t c = record {
  value = search rules;
  cost = within_both _ _ _ _ _ _ (ap (filter_cost (searched_len (tree_in c.args.scope.now))) (parts_form c.args.f.now.at (form_tree c.args.f.now.form) (square c.in-Square.every c.in-Square.name) _ _ c.deref-in-Square.result.now c.deref-in-Square-2.result.now (ap form_tree c.in-Square.is) c.deref-in-Square.ensures c.deref-in-Square-2.ensures))
      c.evaluate-in-Square.ensures.cost c.square_filter_truths-truths.ensures.cost;
  rises = omega (arith, c.evaluate-in-Square.ensures.rises, c.square_filter_truths-truths.ensures.rises);
}

pub evaluate-returns-in_err-first-in-If : goal.evaluate-returns-in_err-first-in-If
unfolding filter_cost
evaluate-returns-in_err-first-in-If g t c = record {
  value = search rules;
  cost = within_first _ _ _ _ _ (ap (filter_cost (searched_len (tree_in c.args.scope.now))) (if_parts c.args.f.now.at (form_tree c.args.f.now.form) _ _ _ c.deref-in-If.result.now _ _ (ap form_tree c.in-If.is) c.deref-in-If.ensures refl refl))
      (within_first _ _ _ _ _ refl c.evaluate-in-If.ensures.cost);
  rises = c.evaluate-in-If.ensures.rises;
}

pub evaluate-returns-in_err-second-in-If : goal.evaluate-returns-in_err-second-in-If
unfolding filter_cost
evaluate-returns-in_err-second-in-If g t c = record {
  value = search rules;
  cost = within_first _ _ _ _ _ (ap (filter_cost (searched_len (tree_in c.args.scope.now))) (if_parts c.args.f.now.at (form_tree c.args.f.now.form) _ _ _ c.deref-in-If.result.now c.deref-in-If-2.result.now _ (ap form_tree c.in-If.is) c.deref-in-If.ensures c.deref-in-If-2.ensures refl))
      (within_both _ _ _ _ _ _ refl c.evaluate-in-If.ensures.cost c.column_where.ensures.cost);
  rises = omega (arith, c.evaluate-in-If.ensures.rises, c.column_where.ensures.rises);
}

pub evaluate-returns-in_err-third-in-If : goal.evaluate-returns-in_err-third-in-If
unfolding filter_cost
evaluate-returns-in_err-third-in-If g t c = record {
  value = search rules;
  cost = within_both _ _ _ _ _ _ (ap (filter_cost (searched_len (tree_in c.args.scope.now))) (if_parts c.args.f.now.at (form_tree c.args.f.now.form) _ _ _ c.deref-in-If.result.now c.deref-in-If-2.result.now c.deref-in-If-3.result.now (ap form_tree c.in-If.is) c.deref-in-If.ensures c.deref-in-If-2.ensures c.deref-in-If-3.ensures))
      (within_both _ _ _ _ _ _ refl c.evaluate-in-If.ensures.cost c.column_where.ensures.cost) c.column_where-in-If.ensures.cost;
  rises = omega (arith, c.evaluate-in-If.ensures.rises, c.column_where.ensures.rises, c.column_where-in-If.ensures.rises);
}
