use Rattle.std.proofs.Common.{◌≡◌, ℕ, ◌&&◌, arith, subst}
use Rattle.std.specs.List.{list_any, range_with_len}
use Rattle.cq_geometry.specs.Squares as board
use Rattle.cq_position.specs.Bitboards.{IsBitboard}
use Rattle.cq_symmetry.specs.Images.{is_in}
use Rattle.cql_syntax.specs.Values as spec
use Rattle.cql_values.proofs.Masks.{union_number}
use Rattle.cql_values.proofs.sets.reached_from_all.Goals as goal

pub loop-number-preserved : goal.loop-number-preserved
loop-number-preserved c =
    let reaches = λ (s goal : ℕ). is_in c.args.from s && list_any (spec.leads_to c.args.m c.args.n s goal) c.args.directions.now in
    union_number c.loop-number.mask c.reached_from-mask.result c.loop-number.number reaches
    (subst (λ s. IsBitboard c.reached_from-mask.result (reaches s)) c.new.ensures c.reached_from-mask.ensures) c.loop-number.invariant

pub returns : goal.returns
unfolding board.squares
returns c =
    let end : c.loop-number.number ≡ 64 = omega arith in
    subst (λ n. IsBitboard c.loop-number.mask (λ goal. list_any
    (λ s. is_in c.args.from s && list_any (spec.leads_to c.args.m c.args.n s goal) c.args.directions.now) (range_with_len 0 n))) end c.loop-number.invariant
