use Rattle.std.proofs.Common.{◌≡◌, ◌∙◌, ◌-◌, ◌+◌, ◌*◌, arith}
use Rattle.cq_position.proofs.Placed.{few_ranks, bad_placement, bad_rank, IsPlacedTo-more, many_ranks, all_placed}
use Rattle.cq_position.proofs.fen.placement.read_placement.Goals as goal

pub returns-in_err-rest : goal.returns-in_err-rest
returns-in_err-rest c = rw c.from_residual.ensures (few_ranks c.args.text.now c.loop-done.done c.loop-done.men (omega arith) (rw c.in_err-rest.was at c.loop-done.invariant))

pub returns-in_err-row : goal.returns-in_err-row
returns-in_err-row c =
    let left = rw c.in_ok-rest.was at c.loop-done.invariant in
    rw c.from_residual-in_err-row.ensures (bad_placement c.args.text.now (bad_rank _ _ _ _ _ (rw c.cut_rank.ensures at left) c.in_err-row.ensures))

pub loop-done-preserved : goal.loop-done-preserved
loop-done-preserved c =
    let left = rw c.in_ok-rest.was at c.loop-done.invariant in
    let row = c.in_ok-row.ensures in
    let width : 56 - 8 * c.loop-done.done + 8 - (56 - 8 * c.loop-done.done) ≡ 8 = omega arith in
    rw width (IsPlacedTo-more _ _ _ _ _ _ (omega arith) (rw c.cut_rank.ensures at left) row.0 (c.copy_from_slice.ensures.after ∙ row.1))

pub returns-in-Some : goal.returns-in-Some
returns-in-Some c =
    let eight : c.loop-done.done ≡ 8 = omega arith in
    many_ranks c.args.text.now c.in-Some.field-0.now c.loop-done.men (rw (c.in-Some.is, eight) at c.loop-done.invariant)

pub returns-in-None : goal.returns-in-None
returns-in-None c =
    let eight : c.loop-done.done ≡ 8 = omega arith in
    all_placed c.args.text.now c.loop-done.men (rw (c.in-None.is, eight) at c.loop-done.invariant)
