use Rattle.std.proofs.Common.{rules, ◌≡◌, ◌<◌, ◌∷◌, ◌++◌, ◌&&◌, ◌∙◌, ℕ, Bool, length, map, ap, ap₂, sym, subst, arith, ◌+◌, true, false, replicate, Some, None}
use Rattle.std.specs.Prelude.{All, IfOk, is_some, option_to_list}
use Rattle.cq_symmetry.specs.Families.{members}
use Rattle.cql_syntax.specs.Contexts as contexts
use Rattle.cql_syntax.specs.Headers as headers
use Rattle.cql_syntax.specs.TreeOf.{filter_tree, filter_trees, filters_tree, form_tree, body_tree, line_tree, part_trees, parts_tree, played_tree, term_trees, terms_tree}
use Rattle.cql_syntax.specs.Trees.{atom, filter_at, transform, unary, direction, pair, if_, square, sort}
use Rattle.cq_symmetry.specs.Images.{is_in}
use Rattle.cql_syntax.specs.Meaning as meaning
use Rattle.cql_syntax.specs.Values as spec
use Rattle.cql_values.specs.FilterValues.{settles, unary_result}
use Rattle.cql_values.specs.ValueModel.{as_value, terms_as_values}
use Rattle.cql_syntax.specs.Kinds.{filter_kind}
use Rattle.cql_syntax.specs.declared.tree.Body.TheFolds.{the_lemmas}
use Rattle.cql_plain.specs.Internal.LineParts.{EndsOf}
use Rattle.cql_plain.specs.Internal.Scopes.{tree_in, value_in, candidate_nodes}
use Rattle.cql_plain.proofs.Evaluated.{any_found, any_passed, map_more, members_more, settled, never_settled, none_more, family_is}
use Rattle.cql_values.proofs.Evaluated.{values_more, terms_more}
use Rattle.cql_plain.proofs.Forms.{designator_value, number_value, name_value, word_value, tagged_value, outcome_value, elo_value, comment_value, unary_value, steps_value, chain_value, sum_value, pair_value, if_value, square_value, line_form_value, move_value, sort_value, any_value, atom_pattern, group_pattern}
use Rattle.cql_plain.proofs.Looked.{looked_inside, word_alone}
use Rattle.std.specs.List.{list_any}
use Rattle.std.proofs.lemmas.Bool.{leb-true, le-leb}
use Rattle.std.proofs.lemmas.List.{take_all}
use Rattle.std.proofs.lemmas.Result.{IfOk-weaker}
use Rattle.cql_plain.proofs.LineValue.{ends_of, greatest_of, line_is}
use Rattle.cql_plain.proofs.PartEnds.{AreTurns, parts_begun, parts_more, parts_end, turns_begun, turns_next, turns_end, turns_stop, atom_law, atom_more}
use Rattle.cql_plain.proofs.evaluate.+evaluate.Goals.{square_at-else-has_square-via-then-has_square+in_ok-decides+else-branch, square_at-else-has_square-via-else-has_square}
use Rattle.cql_plain.proofs.evaluate.+evaluate.Goals as goal

pub values_at-loop-filter-preserved : goal.values_at-loop-filter-preserved
values_at-loop-filter-preserved t c =
    values_more (tree_in c.args.scope.now) c.args.scope.now.context.now c.args.scope.now.names.now c.args.node c.as_slice-filter-items.result.now c.loop-filter.filter-index c.filter-item.result
    c.loop-filter.values.items c.push.new.self.items c.in_ok-value.value c.loop-filter-test.true c.filter-item.is c.loop-filter.invariant c.in_ok-value.ensures c.in_ok-push.ensures.items

pub terms_at-loop-term-preserved : goal.terms_at-loop-term-preserved
terms_at-loop-term-preserved t c =
    terms_more (tree_in c.args.scope.now) c.args.scope.now.context.now c.args.scope.now.names.now c.args.node c.as_slice-term-items.result.now c.loop-term.term-index c.term-item.result
    c.loop-term.values.items c.push.new.self.items c.in_ok-value.value c.loop-term-test.true c.term-item.is c.loop-term.invariant c.in_ok-value.ensures c.in_ok-push.ensures.items

pub member_values-loop-k-preserved : goal.member_values-loop-k-preserved
member_values-loop-k-preserved t c =
    ap (map as_value) c.in_ok-push_if_some.ensures ∙ map_more c.loop-k.values.items c.in_ok-value.value
    ∙ ap₂ (λ vs v. vs ++ option_to_list v) c.loop-k.invariant c.in_ok-value.ensures
    ∙ members_more (tree_in c.args.scope.now) c.args.scope.now.context.now c.args.scope.now.names.now c.args.node (members c.args.family) c.loop-k.k c.member.result
    (filter_tree c.args.part.now) c.member.ensures

pub evaluate-returns-in-Transform : goal.evaluate-returns-in-Transform
evaluate-returns-in-Transform t c =
    let f = c.args.f.now in
    let part = c.deref-in-Transform.result.now in
    let is : filter_tree f ≡ filter_at f.at (transform c.in-Transform.family (filter_tree part)) =
    ap (λ form. filter_at f.at (form_tree form)) c.in-Transform.is ∙ ap (λ p. filter_at f.at (transform c.in-Transform.family (filter_tree p))) (sym c.deref-in-Transform.ensures) in
    subst (λ x. IfOk c.family_value.result (λ v. as_value v ≡ x))
    (family_is (tree_in c.args.scope.now) c.args.scope.now.context.now c.args.scope.now.names.now c.in-Transform.family (filter_tree part) (filter_tree f) f.at c.args.node is)
    c.family_value.ensures

pub square_at-returns-then-branch : goal.square_at-returns-then-branch
square_at-returns-then-branch t c =
    let asked : ℕ → Bool = λ s. spec.holds (meaning.value (tree_in c.args.scope.now) c.args.scope.now.context.now
    ((c.args.name.now, s) ∷ c.args.scope.now.names.now) (filter_tree c.args.asked.now) c.args.node) in
    let low : c.new-square.result < 64 = omega (arith, c.new-square.ensures, c.loop-number-test.true) in
    let settles_it : settles c.args.every (is_in c.squares-set.result) asked c.new-square.result ≡ true =
    ap₂ (λ a b. a && b) (sym c.has_square.ensures ∙ c.if-has_square.true) (sym c.in_ok-decides.ensures ∙ c.if-branch.true) in
    settled c.args.every (as_value c.args.squares) asked c.squares-set.result c.new-square.result c.squares-set.ensures low settles_it

pub square_at-loop-number-preserved : goal.square_at-loop-number-preserved
square_at-loop-number-preserved t c =
    let asked : ℕ → Bool = λ s. spec.holds (meaning.value (tree_in c.args.scope.now) c.args.scope.now.context.now
    ((c.args.name.now, s) ∷ c.args.scope.now.names.now) (filter_tree c.args.asked.now) c.args.node) in
    let test : ℕ → Bool = settles c.args.every (is_in c.squares-set.result) asked in
    let fails : test c.new-square.result ≡ false =
    elim c.else-has_square.branch [
      | square_at-else-has_square-via-then-has_square+in_ok-decides+else-branch w ↦
          ap₂ (λ a b. a && b) (sym c.has_square.ensures ∙ w.if-has_square.true) (sym w.in_ok-decides.ensures ∙ w.if-branch.false)
      | square_at-else-has_square-via-else-has_square w ↦ ap (λ a. a && settles c.args.every (λ s. true) asked c.new-square.result) (sym c.has_square.ensures ∙ w.if-has_square.false)
    ] in
    none_more test c.loop-number.number (ap test (sym c.new-square.ensures) ∙ fails) c.loop-number.invariant

pub square_at-returns : goal.square_at-returns
square_at-returns t c =
    let asked : ℕ → Bool = λ s. spec.holds (meaning.value (tree_in c.args.scope.now) c.args.scope.now.context.now
    ((c.args.name.now, s) ∷ c.args.scope.now.names.now) (filter_tree c.args.asked.now) c.args.node) in
    let end : c.loop-number.number ≡ 64 = omega (arith, c.loop-number-test.false, c.loop-number.auto.number-end) in
    never_settled c.args.every (as_value c.args.squares) asked c.squares-set.result c.loop-number.number c.squares-set.ensures end c.loop-number.invariant

pub unary_at-some_node-requires : goal.unary_at-some_node-requires
unary_at-some_node-requires t c =
    let tree = tree_in c.args.scope.now in
    let is : Some c.in-Some.nodes.items ≡ candidate_nodes tree c.args.word c.args.node = search rules in
    let all = looked_inside tree c.requires.tree c.args.word c.args.node c.requires.node c.in-Some.nodes.items is in
    (search rules, (c.requires.tree, subst (All (λ m. m < length tree.game.nodes)) (sym c.as_slice.ensures.value) all))

pub unary_at-returns-in_ok-value-in-None : goal.unary_at-returns-in_ok-value-in-None
unary_at-returns-in_ok-value-in-None t c =
    let tree = tree_in c.args.scope.now in
    let at = value_in c.args.scope.now (filter_tree c.args.part.now) in
    let none : None ≡ candidate_nodes tree c.args.word c.args.node = search rules in
    c.unary_of_value.ensures ∙ ap (λ p. unary_result p.men c.args.word (as_value c.in_ok-value-in-None.value)) c.position.ensures
    ∙ word_alone tree c.args.word at c.args.node (as_value c.in_ok-value-in-None.value) none c.in_ok-value-in-None.ensures

pub lines::line_at-returns : goal.lines::line_at-returns
lines::line_at-returns t c =
    let steps = c.in_ok-steps.steps.items in
    let starts = true ∷ replicate (length steps) false in
    let ends = c.in_ok-ends.ends.items in
    let begun = c.as_slice-2.ensures.value ∙ c.in_ok-starts.ensures ∙ ap (λ n. true ∷ replicate n false) (c.len.ensures.len ∙ sym c.in_ok-steps.ensures.count) in
    c.number_of.ensures
    ∙ line_is (tree_in c.args.scope.now) c.requires.tree c.args.scope.now.context.now c.args.scope.now.names.now c.args.line.now c.args.node steps ends c.longest.result c.in_ok-steps.ensures
    (ends_of _ steps c.as_slice.result.now starts c.as_slice-2.result.now ends c.as_slice.ensures.value begun c.in_ok-ends.ensures)
    (greatest_of _ steps c.as_slice-3.result.now ends c.as_slice-4.result.now c.longest.result c.as_slice-3.ensures.value c.as_slice-4.ensures.value c.longest.ensures)

pub lines::parts_ends-loop-part-init : goal.lines::parts_ends-loop-part-init
lines::parts_ends-loop-part-init t c =
    parts_begun c.args.steps.now c.requires.steps (tree_in c.args.scope.now) c.args.scope.now.context.now c.args.scope.now.names.now c.args.starts.now (parts_tree c.args.parts.now)
    (part_trees c.as_slice-part-items.result.now) c.in_ok-places.places.items c.in_ok-places.ensures c.as_slice-part-items.ensures.tree

pub lines::parts_ends-loop-part-preserved : goal.lines::parts_ends-loop-part-preserved
lines::parts_ends-loop-part-preserved t c =
    parts_more c.args.steps.now c.requires.steps (tree_in c.args.scope.now) c.args.scope.now.context.now c.args.scope.now.names.now c.args.starts.now (parts_tree c.args.parts.now)
    c.as_slice-part-items.result.now c.loop-part.part-index c.part-item.result c.least_of-least.result c.most_of-most.result
    c.loop-part.places.items c.as_slice.result.now c.in_ok-places-2.places.items
    c.loop-part-test.true c.part-item.is c.least_of-least.ensures c.most_of-most.ensures c.as_slice.ensures.value c.in_ok-places-2.ensures c.loop-part.invariant

pub lines::parts_ends-returns : goal.lines::parts_ends-returns
lines::parts_ends-returns t c =
    parts_end c.args.steps.now c.requires.steps (tree_in c.args.scope.now) c.args.scope.now.context.now c.args.scope.now.names.now c.args.starts.now (parts_tree c.args.parts.now)
    c.as_slice-part-items.result.now c.loop-part.part-index c.loop-part.places.items c.loop-part-test.false c.loop-part.invariant

pub lines::repeat-loop-times-init : goal.lines::repeat-loop-times-init
lines::repeat-loop-times-init t c =
    turns_begun c.args.steps.now (meaning.body_pattern (tree_in c.args.scope.now) c.args.scope.now.context.now c.args.scope.now.names.now (body_tree c.args.body.now)) c.args.least c.args.starts.now
    c.in_ok-here.here.items c.in_ok-ends.ends.items c.in_ok-here.ensures c.in_ok-ends.ensures

pub lines::repeat-body_ends-requires : goal.lines::repeat-body_ends-requires
lines::repeat-body_ends-requires t c = (
  search rules,
  (
    c.requires.tree,
    (
      c.requires.nodes,
      (
        c.requires.steps,
        ap length c.deref-in-loop-times.ensures.value ∙ c.loop-times.invariant.here_count ∙ c.requires.starts,
      ),
    ),
  ),
)

pub lines::repeat-fresh-requires : goal.lines::repeat-fresh-requires
lines::repeat-fresh-requires t c =
    ap length c.deref-in-loop-times-3.ensures.value ∙ c.loop-times.invariant.ends_count
    ∙ sym (ap length c.deref-in-loop-times-2.ensures.value ∙ c.in_ok-next.ensures.count ∙ ap length c.deref-in-loop-times.ensures.value ∙ c.loop-times.invariant.here_count)

pub lines::repeat-with_next-requires : goal.lines::repeat-with_next-requires
lines::repeat-with_next-requires t c =
    ap length c.deref-in-loop-times-5.ensures.value ∙ c.loop-times.invariant.ends_count
    ∙ sym (ap length c.deref-in-loop-times-4.ensures.value ∙ c.in_ok-next.ensures.count ∙ ap length c.deref-in-loop-times.ensures.value ∙ c.loop-times.invariant.here_count)

pub lines::repeat-loop-times-preserved : goal.lines::repeat-loop-times-preserved
lines::repeat-loop-times-preserved t c =
    turns_next c.args.steps.now (meaning.body_pattern (tree_in c.args.scope.now) c.args.scope.now.context.now c.args.scope.now.names.now (body_tree c.args.body.now)) c.args.least c.args.starts.now
    c.loop-times.times c.loop-times.here.items c.loop-times.ends.items c.in_ok-next.next.items c.deref-in-loop-times.result.now c.deref-in-loop-times-2.result.now c.deref-in-loop-times-3.result.now
    c.deref-in-loop-times-4.result.now c.deref-in-loop-times-5.result.now c.in_ok-here-2.here.items c.in_ok-ends-2.ends.items _
    c.deref-in-loop-times.ensures.value c.deref-in-loop-times-2.ensures.value c.deref-in-loop-times-3.ensures.value c.deref-in-loop-times-4.ensures.value c.deref-in-loop-times-5.ensures.value
    c.in_ok-next.ensures (λ e. leb-true c.args.least (c.loop-times.times + 1) e)
    (λ h. le-leb c.args.least (c.loop-times.times + 1) h) c.in_ok-here-2.ensures c.in_ok-ends-2.ensures c.loop-times.invariant

pub lines::repeat-returns : goal.lines::repeat-returns
lines::repeat-returns t c =
    let all : c.loop-times.times ≡ c.args.most = omega arith in
    let p = meaning.body_pattern (tree_in c.args.scope.now) c.args.scope.now.context.now c.args.scope.now.names.now (body_tree c.args.body.now) in
    turns_end c.args.steps.now p c.args.least c.args.starts.now c.args.most c.loop-times.here.items c.loop-times.ends.items
    (subst (λ k. AreTurns c.args.steps.now p c.args.least c.args.starts.now k c.loop-times.here.items c.loop-times.ends.items) all c.loop-times.invariant)

pub lines::repeat-returns-then-not-has_some : goal.lines::repeat-returns-then-not-has_some
lines::repeat-returns-then-not-has_some t c =
    let p = meaning.body_pattern (tree_in c.args.scope.now) c.args.scope.now.context.now c.args.scope.now.names.now (body_tree c.args.body.now) in
    turns_stop c.args.steps.now p c.args.least c.args.starts.now c.loop-times.times c.args.most c.loop-times.here.items c.loop-times.ends.items
    (ap (list_any (λ x. x)) (sym c.deref.ensures.value) ∙ sym c.has_some.ensures ∙ c.if-not-has_some.true) (omega arith) c.loop-times.invariant

pub lines::atom_ends-passes-requires : goal.lines::atom_ends-passes-requires
lines::atom_ends-passes-requires t c =
    let low : c.loop-k.k < length c.args.scope.now.game.now.nodes = omega (arith, c.loop-k-test.true, c.len-k-end.ensures.len) in
    (search rules, (c.requires.tree, (low, (c.requires.nodes, (c.requires.steps, c.requires.starts)))))

pub lines::atom_ends-loop-k-preserved : goal.lines::atom_ends-loop-k-preserved
lines::atom_ends-loop-k-preserved t c =
    atom_more c.args.steps.now (value_in c.args.scope.now (filter_tree c.args.filter.now)) c.args.starts.now
    c.loop-k.ends.items c.push-in-loop-k.new.self.items c.loop-k.k c.in_ok-passes.passes c.in_ok-passes.ensures c.in_ok-push-2.ensures.items c.loop-k.invariant

pub lines::atom_ends-returns : goal.lines::atom_ends-returns
lines::atom_ends-returns t c =
    atom_law c.args.steps.now (value_in c.args.scope.now (filter_tree c.args.filter.now)) c.args.starts.now
    c.loop-k.ends.items c.loop-k.k (omega (arith, c.requires.nodes, c.len-k-end.ensures.len)) c.requires.starts c.loop-k.invariant

pub evaluate-returns-in-Squares : goal.evaluate-returns-in-Squares
evaluate-returns-in-Squares t c =
    c.occupied_squares.ensures ∙ ap (λ p. meaning.standing_of p.men (contexts.designator_image c.args.scope.now.context.now c.in-Squares.d)) c.position.ensures
    ∙ designator_value c.args.scope.now c.args.f.now c.args.node c.in-Squares.d (ap form_tree c.in-Squares.is)

pub evaluate-returns-in-Number : goal.evaluate-returns-in-Number
evaluate-returns-in-Number t c = c.count_value.ensures ∙ number_value c.args.scope.now c.args.f.now c.args.node c.in-Number.number (ap form_tree c.in-Number.is)

pub evaluate-returns-in-Name : goal.evaluate-returns-in-Name
evaluate-returns-in-Name t c =
    c.squares_of.ensures ∙ ap (λ text. spec.squares_where (meaning.is_bound_to c.args.scope.now.names.now text)) c.as_slice.ensures
    ∙ name_value c.args.scope.now c.args.f.now c.args.node c.in-Name.name (ap form_tree c.in-Name.is)

pub evaluate-returns-in-Plain : goal.evaluate-returns-in-Plain
evaluate-returns-in-Plain t c =
    IfOk-weaker c.word_at.result _ _ (λ v known. known ∙ ap (λ word. meaning.word_of (tree_in c.args.scope.now) word c.args.node) c.word_image-word.ensures
    ∙ word_value c.args.scope.now c.args.f.now c.args.node c.in-Plain.word (ap form_tree c.in-Plain.is)) c.word_at.ensures

pub evaluate-returns-in-Tagged : goal.evaluate-returns-in-Tagged
evaluate-returns-in-Tagged t c =
    let s = c.args.scope.now in
    c.tagged.ensures ∙ ap (λ text. spec.as_truth (headers.has_text s.game.now (contexts.field_image s.context.now c.in-Tagged.field) text)) c.as_slice-in-Tagged.ensures
    ∙ tagged_value s c.args.f.now c.args.node c.in-Tagged.field c.in-Tagged.text (ap form_tree c.in-Tagged.is)

pub evaluate-returns-in-Outcome : goal.evaluate-returns-in-Outcome
evaluate-returns-in-Outcome t c = c.ended.ensures ∙ outcome_value c.args.scope.now c.args.f.now c.args.node c.in-Outcome.outcome (ap form_tree c.in-Outcome.is)

pub evaluate-returns-in-Elo : goal.evaluate-returns-in-Elo
evaluate-returns-in-Elo t c =
    ap spec.as_number (c.rating.ensures ∙ ap (headers.rating c.args.scope.now.game.now) c.of_image.ensures)
    ∙ elo_value c.args.scope.now c.args.f.now c.args.node c.in-Elo.of (ap form_tree c.in-Elo.is)

pub evaluate-returns-in-Unary : goal.evaluate-returns-in-Unary
evaluate-returns-in-Unary t c =
    let s = c.args.scope.now in
    let part = filter_tree c.deref.result.now in
    let is = ap form_tree c.in-Unary.is ∙ sym (ap (λ p. unary c.in-Unary.word (filter_tree p)) c.deref.ensures) in
    IfOk-weaker c.unary_at.result _ _ (λ v known. known ∙ ap (λ word. meaning.unary_of (tree_in s) word (value_in s part) c.args.node) c.unary_image.ensures
    ∙ unary_value s c.args.f.now c.args.node c.in-Unary.word part is) c.unary_at.ensures

pub evaluate-returns-in_ok-value-in-Steps : goal.evaluate-returns-in_ok-value-in-Steps
evaluate-returns-in_ok-value-in-Steps t c =
    let m = c.in-Steps in
    let x = as_value c.in_ok-value-in-Steps.value in
    let is = ap form_tree m.is ∙ sym (ap (λ p. direction m.way m.m m.n (filter_tree p)) c.deref-in-Steps.ensures) in
    c.reached.ensures ∙ ap (λ ways. spec.reached_of ways m.m m.n x) (c.directions.ensures ∙ ap meaning.directions_of c.way_image.ensures)
    ∙ steps_value c.args.scope.now c.args.f.now c.args.node m.way m.m m.n (filter_tree c.deref-in-Steps.result.now) x is c.in_ok-value-in-Steps.ensures

pub evaluate-returns-in-Chain : goal.evaluate-returns-in-Chain
evaluate-returns-in-Chain t c =
    IfOk-weaker c.chain_at.result _ _ (λ v known. known
    ∙ chain_value c.args.scope.now c.args.f.now c.args.node c.in-Chain.chain (filters_tree c.in-Chain.parts) (ap form_tree c.in-Chain.is)) c.chain_at.ensures

pub evaluate-returns-in-Sum : goal.evaluate-returns-in-Sum
evaluate-returns-in-Sum t c =
    IfOk-weaker c.sum_at.result _ _ (λ v known. known
    ∙ sum_value c.args.scope.now c.args.f.now c.args.node (terms_tree c.in-Sum.terms) (ap form_tree c.in-Sum.is)) c.sum_at.ensures

pub evaluate-returns-in_ok-second-in-Pair : goal.evaluate-returns-in_ok-second-in-Pair
evaluate-returns-in_ok-second-in-Pair t c =
    let word = c.in-Pair.pair in
    let x = as_value c.in_ok-first-in-Pair.first in
    let y = as_value c.in_ok-second-in-Pair.second in
    let is = ap form_tree c.in-Pair.is ∙ sym (ap₂ (λ p q. pair word (filter_tree p) (filter_tree q)) c.deref-in-Pair.ensures c.deref-in-Pair-2.ensures) in
    c.pair_of.ensures ∙ ap (λ p. spec.pair_of p.men word x y) c.position-in-Pair.ensures
    ∙ pair_value c.args.scope.now c.args.f.now c.args.node word (filter_tree c.deref-in-Pair.result.now) (filter_tree c.deref-in-Pair-2.result.now) x y is
    c.in_ok-first-in-Pair.ensures c.in_ok-second-in-Pair.ensures

pub evaluate-returns-in_ok-otherwise-in-If : goal.evaluate-returns-in_ok-otherwise-in-If
evaluate-returns-in_ok-otherwise-in-If t c =
    let p = c.deref-in-If.result.now in
    let q = c.deref-in-If-2.result.now in
    let r = c.deref-in-If-3.result.now in
    let whole = ap (λ r. if_ (filter_tree p) (filter_tree q) (filter_tree r)) c.deref-in-If-3.ensures
    ∙ ap₂ (λ p q. if_ (filter_tree p) (filter_tree q) (filter_tree c.in-If.otherwise.value)) c.deref-in-If.ensures c.deref-in-If-2.ensures in
    c.if_of.ensures ∙ if_value c.args.scope.now c.args.f.now c.args.node (filter_tree p) (filter_tree q) (filter_tree r) _ _ _ (ap form_tree c.in-If.is ∙ sym whole)
    c.in_ok-condition-in-If.ensures c.in_ok-then-in-If.ensures c.in_ok-otherwise-in-If.ensures

pub evaluate-returns-in_ok-squares-in-Square : goal.evaluate-returns-in_ok-squares-in-Square
evaluate-returns-in_ok-squares-in-Square t c =
    let s = c.args.scope.now in
    let every = c.in-Square.every in
    let a = filter_tree c.deref-in-Square.result.now in
    let b = filter_tree c.deref-in-Square-2.result.now in
    let x = as_value c.in_ok-squares-in-Square.squares in
    let is = ap form_tree c.in-Square.is
    ∙ sym (ap₂ (λ p q. square every c.in-Square.name (filter_tree p) (filter_tree q)) c.deref-in-Square.ensures c.deref-in-Square-2.ensures) in
    IfOk-weaker c.square_at.result _ _ (λ v known. known
    ∙ ap (λ text. spec.square_of every x (λ k. spec.holds (meaning.value (tree_in s) s.context.now ((text, k) ∷ s.names.now) b c.args.node))) c.as_slice-in-Square.ensures
    ∙ square_value s c.args.f.now c.args.node every c.in-Square.name a b x is c.in_ok-squares-in-Square.ensures) c.square_at.ensures

pub evaluate-returns-in-Line : goal.evaluate-returns-in-Line
evaluate-returns-in-Line t c =
    IfOk-weaker c.line_at.result _ _ (λ v known. known
    ∙ line_form_value c.args.scope.now c.args.f.now c.args.node (line_tree c.in-Line.line) (ap form_tree c.in-Line.is)) c.line_at.ensures

pub evaluate-returns-in-Played : goal.evaluate-returns-in-Played
evaluate-returns-in-Played t c =
    IfOk-weaker c.played_at.result _ _ (λ v known. known
    ∙ move_value c.args.scope.now c.args.f.now c.args.node (played_tree c.in-Played.played) (ap form_tree c.in-Played.is)) c.played_at.ensures

pub evaluate-returns-in_ok-value-in-Sort : goal.evaluate-returns-in_ok-value-in-Sort
evaluate-returns-in_ok-value-in-Sort t c =
    let m = c.in-Sort in
    let x = as_value c.in_ok-value-in-Sort.value in
    let is = ap form_tree m.is ∙ sym (ap (λ p. sort m.field-0 m.field-1 (filter_tree p)) c.deref-in-Sort.ensures) in
    ap spec.as_truth (c.is_some.ensures ∙ ap is_some c.number.ensures)
    ∙ sort_value c.args.scope.now c.args.f.now c.args.node m.field-0 m.field-1 (filter_tree c.deref-in-Sort.result.now) x is c.in_ok-value-in-Sort.ensures

pub evaluate-returns-in-Comment : goal.evaluate-returns-in-Comment
evaluate-returns-in-Comment t c = comment_value c.args.scope.now c.args.f.now c.args.node c.in-Comment.field-0 (ap form_tree c.in-Comment.is)

pub evaluate-returns-in-Any : goal.evaluate-returns-in-Any
evaluate-returns-in-Any t c =
    IfOk-weaker c.any_at.result _ _ (λ v known. known
    ∙ any_value c.args.scope.now c.args.f.now c.args.node c.in-Any.kind (filters_tree c.in-Any.parts) (ap form_tree c.in-Any.is)) c.any_at.ensures

pub chain_at-returns : goal.chain_at-returns
chain_at-returns t c = c.chain_of.ensures ∙ ap (spec.chain_of c.args.chain) (ap (map as_value) c.as_slice.ensures.value ∙ c.in_ok-values.ensures)

pub any_at-returns : goal.any_at-returns
any_at-returns t c = c.any_of.ensures ∙ ap (spec.any_of c.args.kind) (ap (map as_value) c.as_slice.ensures.value ∙ c.in_ok-values.ensures)

pub sum_at-returns : goal.sum_at-returns
sum_at-returns t c = c.total.ensures ∙ ap spec.total_of (ap terms_as_values c.as_slice.ensures.value ∙ c.in_ok-values.ensures)

pub family_value-returns : goal.family_value-returns
family_value-returns t c =
    c.any_of.ensures ∙ ap (λ k. spec.any_of k (map as_value c.as_slice.result.now)) c.kind_of.ensures
    ∙ ap (spec.any_of (filter_kind (filter_tree c.args.part.now))) (ap (map as_value) c.as_slice.ensures.value ∙ c.in_ok-values.ensures)

-- all filters of a list are evaluated
pub values_at-returns : goal.values_at-returns
values_at-returns t c =
    let s = c.args.scope.now in
    let items = c.as_slice-filter-items.result.now in
    c.loop-filter.invariant
    ∙ ap (λ fs. meaning.values (tree_in s) s.context.now s.names.now (filter_trees fs) c.args.node) (take_all c.loop-filter.filter-index items c.loop-filter-test.false)
    ∙ ap (λ fs. meaning.values (tree_in s) s.context.now s.names.now fs c.args.node) c.as_slice-filter-items.ensures.tree

pub terms_at-returns : goal.terms_at-returns
terms_at-returns t c =
    let s = c.args.scope.now in
    let items = c.as_slice-term-items.result.now in
    c.loop-term.invariant
    ∙ ap (λ ts. meaning.term_values (tree_in s) s.context.now s.names.now (term_trees ts) c.args.node) (take_all c.loop-term.term-index items c.loop-term-test.false)
    ∙ ap (λ ts. meaning.term_values (tree_in s) s.context.now s.names.now ts c.args.node) c.as_slice-term-items.ensures.tree

-- parts are smaller than their filter, and are evaluated at nodes of the same tree
pub evaluate-unary_at-requires : goal.evaluate-unary_at-requires
evaluate-unary_at-requires t c = (search (rules, the_lemmas), (c.requires.tree, c.requires.node))

pub evaluate-evaluate-requires : goal.evaluate-evaluate-requires
evaluate-evaluate-requires t c = (search (rules, the_lemmas), (c.requires.tree, c.requires.node))

pub evaluate-chain_at-requires : goal.evaluate-chain_at-requires
evaluate-chain_at-requires t c = (search (rules, the_lemmas), (c.requires.tree, c.requires.node))

pub evaluate-sum_at-requires : goal.evaluate-sum_at-requires
evaluate-sum_at-requires t c = (search (rules, the_lemmas), (c.requires.tree, c.requires.node))

pub evaluate-evaluate-requires-in-Pair : goal.evaluate-evaluate-requires-in-Pair
evaluate-evaluate-requires-in-Pair t c = (search (rules, the_lemmas), (c.requires.tree, c.requires.node))

pub evaluate-evaluate-requires-in-Pair-2 : goal.evaluate-evaluate-requires-in-Pair-2
evaluate-evaluate-requires-in-Pair-2 t c = (search (rules, the_lemmas), (c.requires.tree, c.requires.node))

pub evaluate-evaluate-requires-in-If : goal.evaluate-evaluate-requires-in-If
evaluate-evaluate-requires-in-If t c = (search (rules, the_lemmas), (c.requires.tree, c.requires.node))

pub evaluate-evaluate-requires-in-If-2 : goal.evaluate-evaluate-requires-in-If-2
evaluate-evaluate-requires-in-If-2 t c = (search (rules, the_lemmas), (c.requires.tree, c.requires.node))

pub evaluate-evaluate-requires-in-If-3 : goal.evaluate-evaluate-requires-in-If-3
evaluate-evaluate-requires-in-If-3 t c = (search (rules, the_lemmas), (c.requires.tree, c.requires.node))

pub evaluate-evaluate-requires-in-Square : goal.evaluate-evaluate-requires-in-Square
evaluate-evaluate-requires-in-Square t c = (search (rules, the_lemmas), (c.requires.tree, c.requires.node))

pub evaluate-square_at-requires : goal.evaluate-square_at-requires
evaluate-square_at-requires t c = (search (rules, the_lemmas), (c.requires.tree, c.requires.node))

pub evaluate-line_at-requires : goal.evaluate-line_at-requires
evaluate-line_at-requires t c = (search (rules, the_lemmas), (c.requires.tree, c.requires.node))

pub evaluate-played_at-requires : goal.evaluate-played_at-requires
evaluate-played_at-requires t c = (search (rules, the_lemmas), (c.requires.tree, c.requires.node))

pub evaluate-family_value-requires : goal.evaluate-family_value-requires
evaluate-family_value-requires t c = (search (rules, the_lemmas), (c.requires.tree, c.requires.node))

pub evaluate-evaluate-requires-in-Sort : goal.evaluate-evaluate-requires-in-Sort
evaluate-evaluate-requires-in-Sort t c = (search (rules, the_lemmas), (c.requires.tree, c.requires.node))

pub evaluate-any_at-requires : goal.evaluate-any_at-requires
evaluate-any_at-requires t c = (search (rules, the_lemmas), (c.requires.tree, c.requires.node))

pub unary_at-evaluate-requires : goal.unary_at-evaluate-requires
unary_at-evaluate-requires t c = (search rules, (c.requires.tree, c.requires.node))

pub chain_at-values_at-requires : goal.chain_at-values_at-requires
chain_at-values_at-requires t c = (search rules, (c.requires.tree, c.requires.node))

pub any_at-values_at-requires : goal.any_at-values_at-requires
any_at-values_at-requires t c = (search rules, (c.requires.tree, c.requires.node))

pub sum_at-terms_at-requires : goal.sum_at-terms_at-requires
sum_at-terms_at-requires t c = (search rules, (c.requires.tree, c.requires.node))

pub square_at-decides-requires : goal.square_at-decides-requires
square_at-decides-requires t c = (search rules, (c.requires.tree, c.requires.node))

pub decides-evaluate-requires : goal.decides-evaluate-requires
decides-evaluate-requires t c = (search rules, (c.requires.tree, c.requires.node))

pub member_value-evaluate-requires : goal.member_value-evaluate-requires
member_value-evaluate-requires t c = (search rules, (c.requires.tree, c.requires.node))

pub member_values-member_value-requires : goal.member_values-member_value-requires
member_values-member_value-requires t c = (search rules, (c.requires.tree, c.requires.node))

pub family_value-member_values-requires : goal.family_value-member_values-requires
family_value-member_values-requires t c = (search rules, (c.requires.tree, c.requires.node))

-- a node that passes decides, and one that doesn't leaves the others
pub some_node-returns-then-holds : goal.some_node-returns-then-holds
some_node-returns-then-holds t c =
    let low : c.loop-k.k < length c.args.nodes.now = omega arith in
    ap spec.as_truth (any_found (λ m. spec.holds (value_in c.args.scope.now (filter_tree c.args.part.now) m)) c.args.nodes.now c.loop-k.k _ low
    (sym (ap spec.holds c.in_ok-value.ensures) ∙ sym c.holds.ensures ∙ c.if-holds.true) c.loop-k.invariant)

pub some_node-loop-k-preserved : goal.some_node-loop-k-preserved
some_node-loop-k-preserved t c =
    let low : c.loop-k.k < length c.args.nodes.now = omega arith in
    any_passed (λ m. spec.holds (value_in c.args.scope.now (filter_tree c.args.part.now) m)) c.args.nodes.now c.loop-k.k _ low
    (sym (ap spec.holds c.in_ok-value.ensures) ∙ sym c.holds.ensures ∙ c.if-holds.false) c.loop-k.invariant

pub lines::body_ends-returns-in-Atom : goal.lines::body_ends-returns-in-Atom
lines::body_ends-returns-in-Atom t c =
    let s = c.args.scope.now in
    let spells = meaning.body_pattern (tree_in s) s.context.now s.names.now in
    let is = atom_pattern s (filter_tree c.deref.result.now) ∙ ap (λ p. spells (atom (filter_tree p))) c.deref.ensures ∙ sym (ap (λ b. spells (body_tree b)) c.in-Atom.is) in
    IfOk-weaker c.atom_ends.result _ _ (λ ends known. subst (λ p. EndsOf c.args.steps.now p c.args.starts.now ends.items) is known) c.atom_ends.ensures

pub lines::body_ends-returns-in-Group : goal.lines::body_ends-returns-in-Group
lines::body_ends-returns-in-Group t c =
    let s = c.args.scope.now in
    let spells = meaning.body_pattern (tree_in s) s.context.now s.names.now in
    let is = group_pattern s (parts_tree c.in-Group.parts) ∙ sym (ap (λ b. spells (body_tree b)) c.in-Group.is) in
    IfOk-weaker c.parts_ends.result _ _ (λ ends known. subst (λ p. EndsOf c.args.steps.now p c.args.starts.now ends.items) is known) c.parts_ends.ensures

pub lines::passes-evaluate-requires : goal.lines::passes-evaluate-requires
lines::passes-evaluate-requires t c = (search rules, (c.requires.tree, c.requires.node))

pub lines::body_ends-atom_ends-requires : goal.lines::body_ends-atom_ends-requires
lines::body_ends-atom_ends-requires t c = (search (rules, the_lemmas), (c.requires.tree, (c.requires.nodes, (c.requires.steps, c.requires.starts))))

pub lines::body_ends-parts_ends-requires : goal.lines::body_ends-parts_ends-requires
lines::body_ends-parts_ends-requires t c = (search (rules, the_lemmas), (c.requires.tree, (c.requires.nodes, (c.requires.steps, c.requires.starts))))
