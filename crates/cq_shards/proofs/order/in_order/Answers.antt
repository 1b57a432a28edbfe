use Rattle.std.proofs.Common.{AllPairs, subst, sym, rules}
use Rattle.std.proofs.lemmas.List.Sorted.{IsNonDecreasingBy-from_sort_by_key}
use Rattle.std.specs.List.Sorted.{IsPermutation}
use Rattle.cq_shards.specs.Order.{IsEarlier}
use Rattle.cq_shards.proofs.Orders.{apart_moved, earlier_ones_first, written_back}
use Rattle.cq_shards.proofs.order.in_order.Goals as goal

pub returns-clause-order : goal.returns-clause-order
returns-clause-order c = λ apart.
    let moves = subst (λ xs. IsPermutation xs c.sort_by_key.new.self) c.as_mut_slice.ensures.value c.sort_by_key.ensures.permutation in
    let all = written_back c.args.answers.len c.args.answers.items c.as_mut_slice.result.now c.sort_by_key.new.self c.as_mut_slice.ensures.len
    c.sort_by_key.ensures.len in
    subst (AllPairs IsEarlier) (sym all)
    (earlier_ones_first c.sort_by_key.new.self (apart_moved c.args.answers.items c.sort_by_key.new.self moves apart)
    (IsNonDecreasingBy-from_sort_by_key (λ a. a.index) _ c.in_ok-sort_by_key.ensures.sorted (λ a r q k. search rules)))
