use Rattle.std.proofs.Common.{◌≡◌, arith, subst}
use Rattle.std.specs.List.{list_any, range_with_len}
use Rattle.cq_position.specs.Bitboards.{IsBitboard}
use Rattle.cq_position.proofs.Marked.{marks_same}
use Rattle.cql_values.specs.Internal.Squares.{is_step_to}
use Rattle.cql_values.proofs.Masks.{union_number}
use Rattle.cql_values.proofs.Reaching.{leads_near}
use Rattle.cql_values.proofs.sets.reached_along.Goals as goal

pub loop-k-preserved : goal.loop-k-preserved
loop-k-preserved c =
    union_number c.loop-k.mask c.reached_by_steps-mask.result c.loop-k.k (λ j g. is_step_to c.args.m c.args.n c.args.square c.args.direction j g) c.reached_by_steps-mask.ensures c.loop-k.invariant

pub returns : goal.returns
returns c =
    let end : c.loop-k.k ≡ 8 = omega arith in
    marks_same _ _ _ (λ g low. leads_near c.args.m c.args.n c.args.square g c.args.direction (omega arith))
    (subst (λ n. IsBitboard c.loop-k.mask (λ goal. list_any (λ j. is_step_to c.args.m c.args.n c.args.square c.args.direction j goal) (range_with_len 0 n))) end c.loop-k.invariant)
