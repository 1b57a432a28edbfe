-- The goals of candidate squares, in the recursion over filters.
use Rattle.std.proofs.Common.{[], ◌∷◌, ◌+◌, ◌∙◌, ap, ap₂, sym, subst, arith, refl, length, false}
use Rattle.std.specs.Prelude.{OnOk}
use Rattle.std.proofs.Math.Path.{fun_ext}
use Rattle.std.proofs.lemmas.Result.{on_ok_weaker}
use Rattle.cql_syntax.specs.Meaning.{value, values}
use Rattle.cql_syntax.specs.TreeOf.{filter_tree, form_tree, filters_tree, written_tree}
use Rattle.cql_syntax.specs.Trees.{filter_at, unary}
use Rattle.cql_syntax.specs.Values.{holds, some_holds, square_of}
use Rattle.cql_columns.specs.Scopes.{tree_in}
use Rattle.cql_eval.proofs.FlatLaw.{filter_flat}
use Rattle.cql_eval.proofs.FormLaws.{IfOk_then, chain_form}
use Rattle.cql_syntax.specs.Trees.{pair}
use Rattle.cql_columns.specs.Costs.{searched_len}
use Rattle.cql_operators.specs.Trees.{AreBeforeLive}
use Rattle.cql_operators.specs.OtherNodes.{CoverSourceNodes, GatherSourceSquares}
use Rattle.cql_candidates.specs.Covers.{AreRetained, AreJoined, HasSome, MayHave, MayHold}
use Rattle.cql_candidates.proofs.CoverSome.{AddedFor, added_all, added_by, added_more, added_none, or_cut, some_cut}
use Rattle.cql_eval.proofs.CoverIndependent.{free_cut, free_set_cut, no_steps, related_cut}
use Rattle.cql_eval.proofs.Trying.{tried}
use Rattle.cql_eval.proofs.CoverMoves.{asks_free, free_parts_cut}
use Rattle.cql_candidates.proofs.PairLaw.{paired_cut}
use Rattle.cql_candidates.proofs.CoverLaw.{cut_same, cut_then}
use Rattle.cql_eval.proofs.OtherNodesCut.{elsewhere_cut}
use Rattle.cql_candidates.proofs.CoverForms.{unary_cut, written_sets, inner_cut, turned_cut, move_cut, played_cut, pair_cut, one_of_sets, one_of_all, common_cut, all_cut, square_cut, square_same, own_cut}
use Rattle.cql_eval.proofs.evaluate.+evaluate.Goals as goal

pub covers::cover-returns-then-gives_only_name-clause-cut : goal.covers::cover-returns-then-gives_only_name-clause-cut
covers::cover-returns-then-gives_only_name-clause-cut g t c =
    on_ok_weaker c.cover_set.result
    (λ cut. own_cut (tried c.args.trial.now) (filter_tree c.args.asked.now)
    c.args.sets.now c.cover_set.new.sets (c.gives_only_name.ensures c.if-gives_only_name.true) cut)
    c.cover_set.ensures.cut

pub covers::cover-returns-then-is_disjunction-clause-cut : goal.covers::cover-returns-then-is_disjunction-clause-cut
covers::cover-returns-then-is_disjunction-clause-cut g t c =
    subst (λ v. OnOk c.cover_some.result (AreRetained c.args.trial.now.live.now (MayHold c.args.trial.now.opened.now c.args.trial.now.scope.now.names.now c.args.trial.now.name.now v)
    c.args.sets.now c.cover_some.new.sets))
    (fun_ext (λ e. chain_form (tree_in c.args.trial.now.scope.now) e (filter_tree c.args.asked.now) c.args.asked.now.at c.in-Chain.chain (filters_tree c.in-Chain.parts)
    (ap (λ form. filter_at c.args.asked.now.at (form_tree form)) c.in-Chain.is)))
    (on_ok_weaker c.cover_some.result
    (λ cut. or_cut (tried c.args.trial.now) c.in-Chain.chain (filters_tree c.in-Chain.parts)
    c.args.sets.now c.cover_some.new.sets (c.is_disjunction.ensures c.if-is_disjunction.true) cut)
    c.cover_some.ensures.cut)

pub covers::cover-returns-else-not-is_conjunction-clause-cut : goal.covers::cover-returns-else-not-is_conjunction-clause-cut
covers::cover-returns-else-not-is_conjunction-clause-cut g t c =
    subst (λ v. OnOk c.cover_all.result (AreRetained c.args.trial.now.live.now (MayHold c.args.trial.now.opened.now c.args.trial.now.scope.now.names.now c.args.trial.now.name.now v)
    c.args.sets.now c.cover_all.new.sets))
    (fun_ext (λ e. chain_form (tree_in c.args.trial.now.scope.now) e (filter_tree c.args.asked.now) c.args.asked.now.at c.in-Chain.chain (filters_tree c.in-Chain.parts)
    (ap (λ form. filter_at c.args.asked.now.at (form_tree form)) c.in-Chain.is)))
    (on_ok_weaker c.cover_all.result
    (λ cut. all_cut (tried c.args.trial.now) c.in-Chain.chain (filters_tree c.in-Chain.parts)
    c.args.sets.now c.cover_all.new.sets (c.is_conjunction.ensures c.if-not-is_conjunction.false) cut)
    c.cover_all.ensures.cut)

pub covers::cover_set-returns-else-not-is_intersection-clause-cut : goal.covers::cover_set-returns-else-not-is_intersection-clause-cut
covers::cover_set-returns-else-not-is_intersection-clause-cut g t c =
    subst (λ v. OnOk c.cover_each.result (AreRetained c.args.trial.now.live.now (MayHave c.args.trial.now.opened.now c.args.trial.now.scope.now.names.now c.args.trial.now.name.now v)
    c.args.sets.now c.cover_each.new.sets))
    (fun_ext (λ e. chain_form (tree_in c.args.trial.now.scope.now) e (filter_tree c.args.asked.now) c.args.asked.now.at c.in-Chain.chain (filters_tree c.in-Chain.parts)
    (ap (λ form. filter_at c.args.asked.now.at (form_tree form)) c.in-Chain.is)))
    (on_ok_weaker c.cover_each.result
    (λ cut. common_cut (tried c.args.trial.now) c.in-Chain.chain (filters_tree c.in-Chain.parts)
    c.args.sets.now c.cover_each.new.sets (c.is_intersection.ensures c.if-not-is_intersection.false) cut)
    c.cover_each.ensures.cut)

pub covers::cover-returns-in-Played-clause-cut : goal.covers::cover-returns-in-Played-clause-cut
covers::cover-returns-in-Played-clause-cut g t c =
    on_ok_weaker c.cover_played.result
    (λ cut. played_cut (tried c.args.trial.now) (filter_tree c.args.asked.now)
    c.args.asked.now.at c.in-Played.played c.args.sets.now c.cover_played.new.sets (ap (λ form. filter_at c.args.asked.now.at (form_tree form)) c.in-Played.is)
    cut)
    c.cover_played.ensures.cut

pub cover_moves::cover_played-returns-then-not-asks_without-clause-cut : goal.cover_moves::cover_played-returns-then-not-asks_without-clause-cut
cover_moves::cover_played-returns-then-not-asks_without-clause-cut g t c =
    move_cut (tried c.args.trial.now) c.args.played.now c.part_gives_only_name-origin.result c.part_gives_only_name-goal.result c.part_gives_only_name-taken.result
    c.args.sets.now c.retain_move_squares.new.sets c.part_gives_only_name-origin.ensures c.part_gives_only_name-goal.ensures c.part_gives_only_name-taken.ensures c.retain_move_squares.ensures

pub cover_moves::cover_played-returns-clause-cut : goal.cover_moves::cover_played-returns-clause-cut
cover_moves::cover_played-returns-clause-cut g t c =
    on_ok_weaker c.cut_unmet.result
    (λ cut. cut_then c.args.trial.now.live.now _ c.args.sets.now c.retain_move_squares.new.sets c.cut_unmet.new.sets
    (move_cut (tried c.args.trial.now) c.args.played.now c.part_gives_only_name-origin.result c.part_gives_only_name-goal.result c.part_gives_only_name-taken.result
    c.args.sets.now c.retain_move_squares.new.sets c.part_gives_only_name-origin.ensures c.part_gives_only_name-goal.ensures c.part_gives_only_name-taken.ensures c.retain_move_squares.ensures)
    (free_parts_cut (tried c.args.trial.now) c.as_slice-some.result.now c.args.played.now c.in_ok-parts.parts c.in_ok-goal.goal c.retain_move_squares.new.sets c.cut_unmet.new.sets
    (subst (HasSome (tree_in c.args.trial.now.scope.now) c.args.trial.now.live.now c.retain_move_squares.new.sets) (sym c.as_slice-some.ensures.value) c.in_ok-some.ensures)
    c.in_ok-parts.ensures.asks c.in_ok-goal.ensures.asks cut))
    c.cut_unmet.ensures.cut

pub cover_moves::independent_columns-returns-clause-asks : goal.cover_moves::independent_columns-returns-clause-asks
cover_moves::independent_columns-returns-clause-asks g t c = record {
  wide = c.as_slice-wide.result.now;
  before_live = subst (AreBeforeLive (tree_in c.args.trial.now.scope.now) c.args.live.now) (sym c.as_slice-wide.ensures.value) c.in_ok-wide.ensures;
  origin = c.in_ok-origin.ensures.asks;
  taken = c.in_ok-taken.ensures.asks;
  promoted = c.in_ok-promoted.ensures.asks;
}

pub cover_moves::independent_column-returns-clause-asks : goal.cover_moves::independent_column-returns-clause-asks
cover_moves::independent_column-returns-clause-asks g t c =
    IfOk_then c.written_column.result c.written_column.ensures.value
    (λ column. asks_free (tree_in c.args.trial.now.scope.now) c.args.trial.now.opened.now c.args.trial.now.scope.now.names.now (written_tree c.args.written.now) c.args.live.now column
    (c.is_independent_and_present.ensures c.if-not-is_independent_and_present.false))

pub covers::cover_all-loop-class-init : goal.covers::cover_all-loop-class-init
covers::cover_all-loop-class-init g t c = record { cut = cut_same c.args.trial.now.live.now _ c.args.sets.now; cost = refl }

pub covers::cover_all-loop-class-preserved : goal.covers::cover_all-loop-class-preserved
covers::cover_all-loop-class-preserved g t c = record {
  cut = cut_then c.args.trial.now.live.now _ c.args.sets.now c.loop-class.sets c.cover_class.new.sets c.loop-class.invariant.cut c.in_ok-cover_class.ensures.cut;
  cost = c.cover_class.ensures.cost ∙ c.loop-class.invariant.cost;
}

pub covers::cover_class-loop-part-init : goal.covers::cover_class-loop-part-init
covers::cover_class-loop-part-init g t c = record {
  cut = cut_same c.args.trial.now.live.now _ c.args.sets.now;
  cost = refl;
  flat = λ i f h e. filter_flat c.as_slice-part-items.result.now i f (filters_tree c.args.parts.now) h e c.as_slice-part-items.ensures.tree c.requires.flat;
}

pub covers::cover_class-loop-part-preserved : goal.covers::cover_class-loop-part-preserved
covers::cover_class-loop-part-preserved g t c = record {
  cut = one_of_all (tried c.args.trial.now) (record {
    items = c.as_slice-part-items.result.now;
    place = c.loop-part.part-index;
    filter = c.part-item.result;
    low = c.loop-part-test.true;
    is = c.part-item.is;
  })
      (filters_tree c.args.parts.now) c.args.sets.now c.loop-part.sets c.cover_if.new.sets c.as_slice-part-items.ensures.tree
      c.loop-part.invariant.cut c.in_ok-cover_if.ensures.cut;
  cost = c.cover_if.ensures.cost ∙ c.loop-part.invariant.cost;
  flat = c.loop-part.invariant.flat;
}

pub covers::cover_each-loop-part-init : goal.covers::cover_each-loop-part-init
covers::cover_each-loop-part-init g t c = record {
  cut = cut_same c.args.trial.now.live.now _ c.args.sets.now;
  cost = refl;
  flat = λ i f h e. filter_flat c.as_slice-part-items.result.now i f (filters_tree c.args.parts.now) h e c.as_slice-part-items.ensures.tree c.requires.flat;
}

pub covers::cover_each-loop-part-preserved : goal.covers::cover_each-loop-part-preserved
covers::cover_each-loop-part-preserved g t c = record {
  cut = one_of_sets (tried c.args.trial.now) (record {
    items = c.as_slice-part-items.result.now;
    place = c.loop-part.part-index;
    filter = c.part-item.result;
    low = c.loop-part-test.true;
    is = c.part-item.is;
  })
      (filters_tree c.args.parts.now) c.args.sets.now c.loop-part.sets c.cover_set.new.sets c.as_slice-part-items.ensures.tree
      c.loop-part.invariant.cut c.in_ok-cover_set.ensures.cut;
  cost = c.cover_set.ensures.cost ∙ c.loop-part.invariant.cost;
  flat = c.loop-part.invariant.flat;
}

pub covers::cover_set-returns-in_ok-cover_set-in-Pair-clause-cut : goal.covers::cover_set-returns-in_ok-cover_set-in-Pair-clause-cut
covers::cover_set-returns-in_ok-cover_set-in-Pair-clause-cut g t c =
    on_ok_weaker c.cover_related.result
    (λ cut. pair_cut (tried c.args.trial.now) (filter_tree c.args.asked.now) c.in-Pair.pair
    (filter_tree c.deref.result.now) (filter_tree c.deref-in-Pair.result.now) c.args.sets.now c.cover_set.new.sets c.cover_related.new.sets
    (record {
      at = c.args.asked.now.at;
      is = ap (λ form. filter_at c.args.asked.now.at (form_tree form)) c.in-Pair.is
          ∙ sym (ap₂ (λ p q. filter_at c.args.asked.now.at (pair c.in-Pair.pair (filter_tree p) (filter_tree q))) c.deref.ensures c.deref-in-Pair.ensures);
      which = c.is_attack.ensures c.if-not-is_attack.false;
    })
    c.in_ok-cover_set-in-Pair.ensures.cut cut)
    c.cover_related.ensures.cut

pub covers::cover-returns-else-not-gives_only_name-clause-cut : goal.covers::cover-returns-else-not-gives_only_name-clause-cut
covers::cover-returns-else-not-gives_only_name-clause-cut g t c =
    on_ok_weaker c.cover_related.result
    (λ cut. turned_cut (tried c.args.trial.now) (filter_tree c.args.asked.now) c.in-Pair.pair c.converse.result
    (filter_tree c.deref-in-Pair-2.result.now) (filter_tree c.deref-in-Pair.result.now) c.args.sets.now c.cover_related.new.sets
    (record {
      at = c.args.asked.now.at;
      is = ap (λ form. filter_at c.args.asked.now.at (form_tree form)) c.in-Pair.is
          ∙ sym (ap₂ (λ p q. filter_at c.args.asked.now.at (pair c.in-Pair.pair (filter_tree p) (filter_tree q))) c.deref-in-Pair-2.ensures c.deref-in-Pair.ensures);
      which = c.is_attack.ensures c.if-not-is_attack.false;
    })
    (record { attacks = c.converse.ensures.attacks; attacked = c.converse.ensures.attacked }) (c.gives_only_name-in-Pair.ensures c.if-not-gives_only_name.false)
    cut)
    c.cover_related.ensures.cut

pub cover_squares::cover_square-returns-in_ok-cover_inner-in-Square-clause-cut : goal.cover_squares::cover_square-returns-in_ok-cover_inner-in-Square-clause-cut
cover_squares::cover_square-returns-in_ok-cover_inner-in-Square-clause-cut g t c =
    let tree = tree_in c.args.trial.now.scope.now in
    let every = c.in-Square.every in
    let inner = c.as_slice-inner.result.now in
    let squares = filter_tree c.deref-in-Square.result.now in
    let asked = c.args.asked.now in
    on_ok_weaker c.cover_pair.result
    (λ cut. square_cut (tried c.args.trial.now) (filter_tree asked) squares (filter_tree c.deref.result.now) asked.at every inner
    c.args.sets.now c.cover_pair.new.sets
    (ap (λ form. filter_at asked.at (form_tree form)) c.in-Square.is ∙ sym (square_same asked.at every _ _ _ _ _ _ c.as_slice-inner.ensures
    c.deref-in-Square.ensures c.deref.ensures))
    (subst (λ some. AreRetained c.args.trial.now.live.now (MayHold c.args.trial.now.opened.now c.args.trial.now.scope.now.names.now c.args.trial.now.name.now
    (λ e n. square_of some (value tree [] e squares n) (λ s. holds (value tree [] ((inner, s) ∷ e) (filter_tree c.deref.result.now) n))))
    c.args.sets.now c.cover_pair.new.sets)
    (sym (c.is_some_square_of_other_name.ensures.some c.if-not-is_some_square_of_other_name.false))
    (cut_then c.args.trial.now.live.now _ c.args.sets.now c.cover_inner.new.sets c.cover_pair.new.sets (c.in_ok-cover_inner-in-Square.ensures.cut
    (λ e. value tree [] e squares))
    (subst (λ part. AreRetained c.args.trial.now.live.now (MayHold c.args.trial.now.opened.now c.args.trial.now.scope.now.names.now c.args.trial.now.name.now
    (λ e n. square_of false (value tree [] e squares n) (λ s. holds (value tree [] ((inner, s) ∷ e) (filter_tree part) n)))) c.cover_inner.new.sets c.cover_pair.new.sets)
    (c.deref-in-Square-2.ensures ∙ sym c.deref.ensures) cut))))
    c.cover_pair.ensures.cut

pub cover_squares::cover_inner-returns-clause-cut : goal.cover_squares::cover_inner-returns-clause-cut
cover_squares::cover_inner-returns-clause-cut g t c =
    inner_cut (tried c.args.trial.now) _ c.args.inner.now (filter_tree c.args.part.now) c.args.sets.now c.cover.new.sets c.requires.other
    (c.in_ok-wider.ensures ∙ ap (λ k. (c.args.inner.now, k) ∷ c.args.trial.now.opened.now) c.new.ensures) c.in_ok-cover.ensures.cut

pub cover_squares::cover_pair-returns-clause-cut : goal.cover_squares::cover_pair-returns-clause-cut
cover_squares::cover_pair-returns-clause-cut g t c =
    paired_cut (tried c.args.trial.now) c.as_slice-some.result.now c.args.inner.now (filter_tree c.args.squares.now) (filter_tree c.args.part.now)
    c.in_ok-column.column c.args.sets.now c.retain_paired.new.sets c.requires.other
    (subst (HasSome (tree_in c.args.trial.now.scope.now) c.args.trial.now.live.now c.args.sets.now) (sym c.as_slice-some.ensures.value) c.in_ok-some.ensures)
    (record { free = c.is_independent.ensures c.if-not-is_independent.false; column = c.in_ok-column.ensures.value }) c.retain_paired.ensures.cut

pub covers::cover_other_nodes-returns-clause-cut : goal.covers::cover_other_nodes-returns-clause-cut
covers::cover_other_nodes-returns-clause-cut g t c =
    elsewhere_cut (tried c.args.trial.now) c.args.word (λ e. value (tree_in c.args.trial.now.scope.now) [] e (filter_tree c.args.part.now))
    c.as_slice-wide.result.now c.in_ok-there.there.items c.cover.new.sets c.args.sets.now c.cut.new.sets c.requires.asked
    (record {
      sure = sym c.reads_other_nodes.ensures ∙ c.if-not-reads_other_nodes.false;
      looked = subst (CoverSourceNodes (tree_in c.args.trial.now.scope.now) c.args.word c.args.trial.now.live.now) (sym c.as_slice-wide.ensures.value) c.in_ok-wide.ensures;
      among = c.union_at_live.result;
      all = c.union_at_live.ensures;
      every = c.in_ok-there.ensures;
    })
    (subst (λ old. AreRetained c.as_slice-wide.result.now (MayHold c.args.trial.now.opened.now c.args.trial.now.scope.now.names.now c.args.trial.now.name.now
    (λ e. value (tree_in c.args.trial.now.scope.now) [] e (filter_tree c.args.part.now))) old c.cover.new.sets) c.deref_mut.ensures.value c.in_ok-cover.ensures.cut)
    (record {
      back = c.in_ok-back.back.items;
      brought = subst (λ left. GatherSourceSquares c.args.trial.now.scope.now.game.now.nodes c.args.word left c.in_ok-back.back.items)
          (written_sets c.in_ok-there.there.len c.cover.new.sets c.in_ok-there.there.items (omega (arith, c.cover.ensures.len, c.deref_mut.ensures.len))) c.in_ok-back.ensures;
      cut = c.cut.ensures;
    })

pub covers::cover-returns-in-Unary-clause-cut : goal.covers::cover-returns-in-Unary-clause-cut
covers::cover-returns-in-Unary-clause-cut g t c =
    on_ok_weaker c.cover_other_nodes.result
    (λ cut. unary_cut (tried c.args.trial.now) (filter_tree c.args.asked.now)
    (filter_tree c.deref.result.now) c.args.asked.now.at c.in-Unary.word c.args.sets.now c.cover_other_nodes.new.sets
    (ap (λ form. filter_at c.args.asked.now.at (form_tree form)) c.in-Unary.is
    ∙ sym (ap (λ p. filter_at c.args.asked.now.at (unary c.in-Unary.word (filter_tree p))) c.deref.ensures))
    cut)
    c.cover_other_nodes.ensures.cut

pub cover_some::cover_some-loop-part-init : goal.cover_some::cover_some-loop-part-init
cover_some::cover_some-loop-part-init g t c = record {
  added = added_none (tried c.args.trial.now) c.as_slice-part-items.result.now c.args.sets.now c.in_ok-kept.kept.items;
  count = c.in_ok-kept.ensures;
  cost = refl;
  flat = λ i f h e. filter_flat c.as_slice-part-items.result.now i f (filters_tree c.args.parts.now) h e c.as_slice-part-items.ensures.tree c.requires.flat;
}

pub cover_some::cover_some-loop-part-preserved : goal.cover_some::cover_some-loop-part-preserved
cover_some::cover_some-loop-part-preserved g t c =
    let For = AddedFor (tried c.args.trial.now) c.as_slice-part-items.result.now in
    let same = written_sets c.loop-part.kept.len c.add_covered.new.kept c.loop-part.kept.items (omega (arith, c.add_covered.ensures.len, c.deref_mut.ensures.len)) in
    record {
      added = subst (For (c.loop-part.part-index + 1) c.args.sets.now c.in_ok-kept.kept.items) (sym same)
          (added_more (tried c.args.trial.now) (record {
            items = c.as_slice-part-items.result.now;
            place = c.loop-part.part-index;
            filter = c.part-item.result;
            low = c.loop-part-test.true;
            is = c.part-item.is;
          })
          c.args.sets.now c.in_ok-kept.kept.items c.deref_mut.result.now c.add_covered.new.kept
          (subst (For c.loop-part.part-index c.args.sets.now c.in_ok-kept.kept.items) (sym c.deref_mut.ensures.value) c.loop-part.invariant.added)
          c.in_ok-add_covered.ensures.added);
      count = ap length same ∙ c.add_covered.ensures.len ∙ ap length c.deref_mut.ensures.value ∙ c.loop-part.invariant.count;
      cost = c.add_covered.ensures.cost ∙ c.loop-part.invariant.cost;
      flat = c.loop-part.invariant.flat;
    }

pub cover_some::cover_some-returns-clause-cut : goal.cover_some::cover_some-returns-clause-cut
cover_some::cover_some-returns-clause-cut g t c =
    some_cut c.args.trial.now.live.now (MayHold c.args.trial.now.opened.now c.args.trial.now.scope.now.names.now c.args.trial.now.name.now
    (λ e n. some_holds (values (tree_in c.args.trial.now.scope.now) [] e (filters_tree c.args.parts.now) n))) c.in_ok-kept.kept.items _ c.args.sets.now c.cut.new.sets
    (added_all (tried c.args.trial.now) c.as_slice-part-items.result.now c.loop-part.part-index
    (filters_tree c.args.parts.now) c.args.sets.now c.in_ok-kept.kept.items c.loop-part.kept.items (omega (arith, c.loop-part-test.false))
    c.as_slice-part-items.ensures.tree c.loop-part.invariant.added) c.cut.ensures

pub cover_some::add_covered-returns-clause-added : goal.cover_some::add_covered-returns-clause-added
cover_some::add_covered-returns-clause-added g t c =
    let P = MayHold c.args.trial.now.opened.now c.args.trial.now.scope.now.names.now c.args.trial.now.name.now (λ e. value
    (tree_in c.args.trial.now.scope.now) [] e (filter_tree c.args.part.now)) in
    added_by c.args.trial.now.live.now P c.args.sets.now c.deref_mut.result.now c.cover.new.sets c.args.kept.now c.add_sets.new.sets
    (c.deref_mut.ensures.value ∙ c.in_ok-left.ensures) c.requires.kept c.in_ok-cover.ensures.cut
    (subst (λ more. AreJoined more c.args.kept.now c.add_sets.new.sets)
    (c.deref.ensures.value ∙ written_sets c.in_ok-left.left.len c.cover.new.sets c.in_ok-left.left.items (omega (
      arith,
      c.cover.ensures.len,
      c.deref_mut.ensures.len,
    ))) c.add_sets.ensures)

pub covers::cover_independent-returns : goal.covers::cover_independent-returns
covers::cover_independent-returns g t c = record {
  cut = free_cut (tree_in c.args.trial.now.scope.now) c.args.trial.now.live.now c.in_ok-some.some.items c.deref.result.now c.deref-2.result.now c.args.trial.now.opened.now
      c.args.trial.now.scope.now.names.now c.args.trial.now.name.now (filter_tree c.args.asked.now) c.in_ok-column.column c.args.sets.now c.retain_where_holds.new.sets
      c.deref.ensures.value c.deref-2.ensures.value c.in_ok-some.ensures c.requires.free c.in_ok-column.ensures.value c.retain_where_holds.ensures;
  len = c.retain_where_holds.ensures.count;
  cost = no_steps _ _ _ (c.requires.free.cost (searched_len (tree_in c.args.trial.now.scope.now))) c.evaluate.ensures.cost c.evaluate.ensures.rises;
}

pub covers::cover_independent-returns-in_err-column-clause-cost : goal.covers::cover_independent-returns-in_err-column-clause-cost
covers::cover_independent-returns-in_err-column-clause-cost g t c =
    no_steps _ _ _ (c.requires.free.cost (searched_len (tree_in c.args.trial.now.scope.now))) c.evaluate.ensures.cost c.evaluate.ensures.rises

pub covers::cover_independent_set-returns : goal.covers::cover_independent_set-returns
covers::cover_independent_set-returns g t c = record {
  cut = free_set_cut (tree_in c.args.trial.now.scope.now) c.args.trial.now.live.now c.in_ok-some.some.items c.deref.result.now c.deref-2.result.now c.args.trial.now.opened.now
      c.args.trial.now.scope.now.names.now c.args.trial.now.name.now (filter_tree c.args.asked.now) c.in_ok-column.column c.args.sets.now c.cut.new.sets
      c.deref.ensures.value c.deref-2.ensures.value c.in_ok-some.ensures c.requires.free c.in_ok-column.ensures.value c.cut.ensures;
  len = c.cut.ensures.count;
  cost = no_steps _ _ _ (c.requires.free.cost (searched_len (tree_in c.args.trial.now.scope.now))) c.evaluate.ensures.cost c.evaluate.ensures.rises;
}

pub covers::cover_independent_set-returns-in_err-column-clause-cost : goal.covers::cover_independent_set-returns-in_err-column-clause-cost
covers::cover_independent_set-returns-in_err-column-clause-cost g t c =
    no_steps _ _ _ (c.requires.free.cost (searched_len (tree_in c.args.trial.now.scope.now))) c.evaluate.ensures.cost c.evaluate.ensures.rises

pub covers::cover_related-returns : goal.covers::cover_related-returns
covers::cover_related-returns g t c = record {
  cut = related_cut (tree_in c.args.trial.now.scope.now) c.args.trial.now.live.now c.in_ok-some.some.items c.deref.result.now c.deref-2.result.now c.args.trial.now.opened.now
      c.args.trial.now.scope.now.names.now c.args.trial.now.name.now (filter_tree c.args.second.now) c.in_ok-column.column c.args.sets.now c.retain_attackers.new.sets
      c.deref.ensures.value c.deref-2.ensures.value c.in_ok-some.ensures (c.is_independent.ensures c.if-not-is_independent.false) c.in_ok-column.ensures.value c.args.pair c.retain_attackers.ensures;
  len = c.retain_attackers.ensures.count;
  cost = no_steps _ _ _ ((c.is_independent.ensures c.if-not-is_independent.false).cost (searched_len (tree_in c.args.trial.now.scope.now))) c.evaluate.ensures.cost c.evaluate.ensures.rises;
}

pub covers::cover_related-returns-in_err-column-clause-cost : goal.covers::cover_related-returns-in_err-column-clause-cost
covers::cover_related-returns-in_err-column-clause-cost g t c =
    no_steps _ _ _ ((c.is_independent.ensures c.if-not-is_independent.false).cost (searched_len (tree_in c.args.trial.now.scope.now))) c.evaluate.ensures.cost c.evaluate.ensures.rises
