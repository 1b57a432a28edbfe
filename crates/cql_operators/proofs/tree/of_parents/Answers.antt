use Rattle.std.proofs.Common.{◌∙◌, ap, arith, refl}
use Rattle.cql_columns.proofs.Filling.{put_told}
use Rattle.cql_operators.specs.Trees.{flag_of}
use Rattle.cql_operators.proofs.tree.of_parents.Goals as goal

pub loop-k-init : goal.loop-k-init
loop-k-init c = record { count = omega (arith, c.in_ok-found.ensures, c.len.ensures.len); each = λ n low. absurd (omega (arith, low)) }

pub loop-k-preserved : goal.loop-k-preserved
loop-k-preserved c =
    put_told _ _ c.loop-k.k c.loop-k.found.items _ c.is_flagged.result (omega (arith, c.loop-k-test.true, c.len-k-end.ensures.len)) refl
    (c.is_flagged.ensures ∙ ap (flag_of c.args.set.now) c.parent.ensures.value) c.loop-k.invariant

pub returns : goal.returns
returns c = λ n low. c.loop-k.invariant.each n (omega (arith, low, c.loop-k-test.false, c.len-k-end.ensures.len))
