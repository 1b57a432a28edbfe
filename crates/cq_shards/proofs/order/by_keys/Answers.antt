use Rattle.std.proofs.Common.{AllPairs, filter, ap, subst, sym, ◌∙◌, ◌≡◌, rules}
use Rattle.std.proofs.lemmas.Fn.{always_returns_same, filter_same}
use Rattle.std.proofs.lemmas.List.Sorted.{ranks_by}
use Rattle.std.specs.List.Sorted.{IsPermutation}
use Rattle.std.specs.Ordering.{is_lt}
use Rattle.cql_syntax.specs.TreeOf.{query_tree}
use Rattle.cq_shards.specs.Internal.Comparing.{answer_cmp}
use Rattle.cq_shards.specs.Order.{ComesBefore, directions, is_match}
use Rattle.cq_shards.proofs.Comparing.{answer_total}
use Rattle.cq_shards.proofs.Orders.{comes_after, matches_in_order, written_back}
use Rattle.cq_shards.proofs.order.by_keys.Goals as goal

pub returns-clause-same : goal.returns-clause-same
returns-clause-same c =
    let kept : c.retain.new.self.items ≡ filter is_match c.args.answers.items = filter_same _ _ _ (λ x b f' k. search rules) _ _ c.retain.ensures.filtered in
    let all = written_back c.retain.new.self.len c.retain.new.self.items c.as_mut_slice.result.now c.sort_by.new.self c.as_mut_slice.ensures.len
    c.sort_by.ensures.len in
    let moves = subst (λ xs. IsPermutation xs c.sort_by.new.self) (c.as_mut_slice.ensures.value ∙ kept) c.sort_by.ensures.permutation in
    subst (IsPermutation (filter is_match c.args.answers.items)) (sym all) moves

pub returns-clause-order : goal.returns-clause-order
returns-clause-order c = λ apart full.
    let items = directions (query_tree c.args.query.now).items in
    let kept : c.retain.new.self.items ≡ filter is_match c.args.answers.items = filter_same _ _ _ (λ x b f' k. search rules) _ _ c.retain.ensures.filtered in
    let all = written_back c.retain.new.self.len c.retain.new.self.items c.as_mut_slice.result.now c.sort_by.new.self c.as_mut_slice.ensures.len
    c.sort_by.ensures.len in
    let moves = subst (λ xs. IsPermutation xs c.sort_by.new.self) (c.as_mut_slice.ensures.value ∙ kept) c.sort_by.ensures.permutation in
    let told : c.in_ok-least.least.items ≡ items = c.in_ok-least.ensures ∙ ap directions c.as_slice.ensures.tree in
    let up = c.in_ok-sort_by.ensures.sorted (comes_after items) (ranks_by (answer_total items) (λ a. a))
    (always_returns_same _ (λ a r. is_lt r ≡ comes_after items a.0.now a.1.0.now) _ (λ a r q k.
    let compared : r ≡ answer_cmp c.in_ok-least.least.items a.0.now a.1.0.now = search rules in
    (subst (λ items. is_lt r ≡ comes_after items a.0.now a.1.0.now) told (ap is_lt compared), search rules))) in
    subst (AllPairs (ComesBefore items)) (sym all) (matches_in_order items c.args.answers.items c.sort_by.new.self apart full moves up)
