use Rattle.std.proofs.Common.{arith, ◌+◌, drop, refl, sym, ◌∙◌, ap}
use Rattle.std.proofs.lemmas.Result.{err_from_is_err_and}
use Rattle.cql_syntax.specs.Occurrences.{of_items}
use Rattle.cql_syntax.specs.TreeOf.{filter_trees}
use Rattle.cql_kinds.specs.Internal.Walks.{walk_result}
use Rattle.cql_kinds.proofs.Loops.{items_at, items_end}
use Rattle.cql_kinds.proofs.Walking.{refused_at, found_after}
use Rattle.cql_kinds.proofs.checking.walk_items.Goals as goal

pub returns-in_err-found : goal.returns-in_err-found
returns-in_err-found c =
    let here = sym c.loop-item.invariant.joined
    ∙ items_at c.loop-item.sorts c.loop-item.found c.as_slice-item-items.result.now c.loop-item.item-index c.item-item.result c.loop-item-test.true c.item-item.is in
    let p = err_from_is_err_and c.from_residual.result c.from_residual.ensures.1 in
    rw (p.1, p.2) (refused_at c.in_err-found.field-0.0 c.loop-item.found _ _ _ _ here c.in_err-found.ensures refl)

pub loop-item-preserved : goal.loop-item-preserved
loop-item-preserved c =
    let here = sym c.loop-item.invariant.joined
    ∙ items_at c.loop-item.sorts c.loop-item.found c.as_slice-item-items.result.now c.loop-item.item-index c.item-item.result c.loop-item-test.true c.item-item.is in
    record {
      bounded = omega (arith, c.loop-item.invariant.bounded, c.sorts_with-sorts.ensures.most);
      joined = ap (λ n. walk_result c.in_ok-found.found (of_items n (filter_trees (drop (c.loop-item.item-index + 1) c.as_slice-item-items.result.now)))) c.sorts_with-sorts.ensures.value
          ∙ sym (found_after c.loop-item.found c.in_ok-found.found _ _ _ _ here c.in_ok-found.ensures refl);
    }

pub returns : goal.returns
returns c =
    sym c.loop-item.invariant.joined
    ∙ items_end c.loop-item.sorts c.loop-item.found c.as_slice-item-items.result.now c.loop-item.item-index c.loop-item-test.false
