-- The conditions of the parts of filters, in the recursion over filters: they are flat if the whole is, and smaller.
use Rattle.std.proofs.Common.{◌∙◌, ap, rules}
use Rattle.cql_syntax.specs.TreeOf.{form_tree}
use Rattle.cql_syntax.specs.declared.tree.Body.TheFolds.{the_lemmas}
use Rattle.cql_columns.specs.FlatTrees.{unflat}
use Rattle.cql_eval.proofs.FlatLaw.{boxed_flat, form_flat, none_first, none_rest}
use Rattle.cql_eval.proofs.evaluate.+evaluate.Goals as goal

pub evaluate-unary_column-requires : goal.evaluate-unary_column-requires
unfolding unflat
evaluate-unary_column-requires g t c = λ κs low.
    (search (rules, the_lemmas), (low, (c.requires.tree, (c.requires.asked, boxed_flat _ _ c.deref.ensures (form_flat c.args.f.now _ (ap form_tree c.in-Unary.is) c.requires.flat)))))

pub evaluate-evaluate-requires : goal.evaluate-evaluate-requires
unfolding unflat
evaluate-evaluate-requires g t c = λ κs low.
    (search (rules, the_lemmas), (low, (c.requires.tree, (c.requires.asked, boxed_flat _ _ c.deref-in-Steps.ensures (form_flat c.args.f.now _ (ap form_tree c.in-Steps.is) c.requires.flat)))))

pub evaluate-chain_column-requires : goal.evaluate-chain_column-requires
unfolding unflat
evaluate-chain_column-requires g t c = λ κs low.
    (search (rules, the_lemmas), (low, (c.requires.tree, (c.requires.asked, form_flat c.args.f.now _ (ap form_tree c.in-Chain.is) c.requires.flat))))

pub evaluate-terms_of-requires : goal.evaluate-terms_of-requires
unfolding unflat
evaluate-terms_of-requires g t c = λ κs low.
    (search (rules, the_lemmas), (low, (c.requires.tree, (c.requires.asked, form_flat c.args.f.now _ (ap form_tree c.in-Sum.is) c.requires.flat))))

pub evaluate-evaluate-requires-in-Pair : goal.evaluate-evaluate-requires-in-Pair
unfolding unflat
evaluate-evaluate-requires-in-Pair g t c = λ κs low.
    (search (rules, the_lemmas), (low, (c.requires.tree, (c.requires.asked, boxed_flat _ _ c.deref-in-Pair.ensures (none_first _ _ (form_flat c.args.f.now _ (ap form_tree c.in-Pair.is) c.requires.flat))))))

pub evaluate-evaluate-requires-in-Pair-2 : goal.evaluate-evaluate-requires-in-Pair-2
unfolding unflat
evaluate-evaluate-requires-in-Pair-2 g t c = λ κs low.
    (search (rules, the_lemmas), (low, (c.requires.tree, (c.requires.asked, boxed_flat _ _ c.deref-in-Pair-2.ensures (none_rest _ _ (form_flat c.args.f.now _ (ap form_tree c.in-Pair.is) c.requires.flat))))))

pub evaluate-evaluate-requires-in-If : goal.evaluate-evaluate-requires-in-If
unfolding unflat
evaluate-evaluate-requires-in-If g t c = λ κs low.
    (search (rules, the_lemmas), (low, (c.requires.tree, (c.requires.asked, boxed_flat _ _ c.deref-in-If.ensures (none_first _ _ (none_first _ _ (form_flat c.args.f.now _ (ap form_tree c.in-If.is) c.requires.flat)))))))

pub evaluate-column_where-requires : goal.evaluate-column_where-requires
unfolding unflat
evaluate-column_where-requires g t c = λ κs low.
    (search (rules, the_lemmas), (low, (c.requires.tree, (c.requires.asked, boxed_flat _ _ c.deref-in-If-2.ensures (none_rest _ _ (none_first _ _ (form_flat c.args.f.now _ (ap form_tree c.in-If.is) c.requires.flat)))))))

pub evaluate-column_where-requires-in-If : goal.evaluate-column_where-requires-in-If
unfolding unflat
evaluate-column_where-requires-in-If g t c = λ κs low.
    (search (rules, the_lemmas), (low, (c.requires.tree, (c.requires.asked, boxed_flat _ _ c.deref-in-If-3.ensures (none_rest _ _ (form_flat c.args.f.now _ (ap form_tree c.in-If.is) c.requires.flat))))))

pub evaluate-evaluate-requires-in-Square : goal.evaluate-evaluate-requires-in-Square
unfolding unflat
evaluate-evaluate-requires-in-Square g t c = λ κs low.
    (search (rules, the_lemmas), (low, (c.requires.tree, (c.requires.asked, boxed_flat _ _ c.deref-in-Square.ensures (none_first _ _ (form_flat c.args.f.now _ (ap form_tree c.in-Square.is) c.requires.flat))))))

pub evaluate-square_filter_truths-truths-requires : goal.evaluate-square_filter_truths-truths-requires
unfolding unflat
evaluate-square_filter_truths-truths-requires g t c = λ κs low.
    (search (rules, the_lemmas), (low, (c.requires.tree, (c.requires.asked, boxed_flat _ _ c.deref-in-Square-2.ensures (none_rest _ _ (form_flat c.args.f.now _ (ap form_tree c.in-Square.is) c.requires.flat))))))

pub evaluate-played_column-requires : goal.evaluate-played_column-requires
unfolding unflat
evaluate-played_column-requires g t c = λ κs low.
    (search (rules, the_lemmas), (low, (c.requires.tree, (c.requires.asked, form_flat c.args.f.now _ (ap form_tree c.in-Played.is) c.requires.flat))))

pub evaluate-evaluate-requires-in-Sort : goal.evaluate-evaluate-requires-in-Sort
unfolding unflat
evaluate-evaluate-requires-in-Sort g t c = λ κs low.
    (search (rules, the_lemmas), (low, (c.requires.tree, (c.requires.asked, boxed_flat _ _ c.deref-in-Sort.ensures (form_flat c.args.f.now _ (ap form_tree c.in-Sort.is) c.requires.flat)))))

pub evaluate-any_column-requires : goal.evaluate-any_column-requires
unfolding unflat
evaluate-any_column-requires g t c = λ κs low.
    (search (rules, the_lemmas), (low, (c.requires.tree, (c.requires.asked, form_flat c.args.f.now _ (ap form_tree c.in-Any.is) c.requires.flat))))

pub evaluate-line_column-requires : goal.evaluate-line_column-requires
unfolding unflat
evaluate-line_column-requires g t c = λ κs low.
    (search (rules, the_lemmas), (low, (c.requires.tree, (c.requires.asked, form_flat c.args.f.now _ (ap form_tree c.in-Line.is) c.requires.flat))))

pub covers::cover-cover_some-requires : goal.covers::cover-cover_some-requires
unfolding unflat
covers::cover-cover_some-requires g t c = λ κs low.
    (search (rules, the_lemmas), (low, (c.requires.tree, (c.requires.asked, (c.requires.count, form_flat c.args.asked.now _ (ap form_tree c.in-Chain.is) c.requires.flat)))))

pub covers::cover-cover_all-requires : goal.covers::cover-cover_all-requires
unfolding unflat
covers::cover-cover_all-requires g t c = λ κs low.
    (search (rules, the_lemmas), (low, (c.requires.tree, (c.requires.asked, (c.requires.count, form_flat c.args.asked.now _ (ap form_tree c.in-Chain.is) c.requires.flat)))))

pub covers::cover-cover_other_nodes-requires : goal.covers::cover-cover_other_nodes-requires
unfolding unflat
covers::cover-cover_other_nodes-requires g t c = λ κs low.
    (search (rules, the_lemmas), (low, (c.requires.tree, (c.requires.asked, (c.requires.count, boxed_flat _ _ c.deref.ensures (form_flat c.args.asked.now _ (ap form_tree c.in-Unary.is) c.requires.flat))))))

pub covers::cover-cover_played-requires : goal.covers::cover-cover_played-requires
unfolding unflat
covers::cover-cover_played-requires g t c = λ κs low.
    (search (rules, the_lemmas), (low, (c.requires.tree, (c.requires.asked, (c.requires.count, form_flat c.args.asked.now _ (ap form_tree c.in-Played.is) c.requires.flat)))))

pub covers::cover-cover_related-requires : goal.covers::cover-cover_related-requires
unfolding unflat
covers::cover-cover_related-requires g t c = λ κs low.
    (search (rules, the_lemmas), (low, (c.requires.tree, (c.requires.asked, (c.requires.count, (boxed_flat _ _ c.deref-in-Pair-2.ensures (none_first _ _ (form_flat c.args.asked.now _ (ap form_tree c.in-Pair.is) c.requires.flat)), c.converse.ensures.attack))))))

pub covers::cover_set-cover_each-requires : goal.covers::cover_set-cover_each-requires
unfolding unflat
covers::cover_set-cover_each-requires g t c = λ κs low.
    (search (rules, the_lemmas), (low, (c.requires.tree, (c.requires.asked, (c.requires.count, form_flat c.args.asked.now _ (ap form_tree c.in-Chain.is) c.requires.flat)))))

pub covers::cover_set-cover_set-requires : goal.covers::cover_set-cover_set-requires
unfolding unflat
covers::cover_set-cover_set-requires g t c = λ κs low.
    (search (rules, the_lemmas), (low, (c.requires.tree, (c.requires.asked, (c.requires.count, boxed_flat _ _ c.deref.ensures (none_first _ _ (form_flat c.args.asked.now _ (ap form_tree c.in-Pair.is) c.requires.flat)))))))

pub covers::cover_set-cover_related-requires : goal.covers::cover_set-cover_related-requires
unfolding unflat
covers::cover_set-cover_related-requires g t c = λ κs low.
    (search (rules, the_lemmas), (low, (c.requires.tree, (c.requires.asked, (c.cover_set.ensures.len ∙ c.requires.count, (boxed_flat _ _ c.deref-in-Pair.ensures (none_rest _ _ (form_flat c.args.asked.now _ (ap form_tree c.in-Pair.is) c.requires.flat)), c.is_attack.ensures c.if-not-is_attack.false))))))

pub cover_squares::cover_square-cover_inner-requires : goal.cover_squares::cover_square-cover_inner-requires
unfolding unflat
cover_squares::cover_square-cover_inner-requires g t c = λ κs low.
    (search (rules, the_lemmas), (low, (c.requires.tree, (c.requires.asked, (c.requires.count, (boxed_flat _ _ c.deref.ensures (none_rest _ _ (form_flat c.args.asked.now _ (ap form_tree c.in-Square.is) c.requires.flat)), c.is_some_square_of_other_name.ensures.other c.if-not-is_some_square_of_other_name.false))))))

pub goals::goal_truths-goal_met-requires : goal.goals::goal_truths-goal_met-requires
unfolding unflat
goals::goal_truths-goal_met-requires g t c = λ κs low.
    (search (rules, the_lemmas), (low, (c.requires.tree, (c.requires.asked, (form_flat c.args.asked.now _ (ap form_tree c.in-Played.is) c.requires.flat, (c.requires.some, c.requires.opened))))))
