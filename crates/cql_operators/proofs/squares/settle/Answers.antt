use Rattle.std.proofs.Common.{◌∙◌, ap, arith, false, refl}
use Rattle.std.specs.Prelude.{◌&&◌, not, get_or, if◌then◌else◌}
use Rattle.cql_syntax.specs.Values.{holds}
use Rattle.cql_columns.specs.Columns.{shown}
use Rattle.cql_columns.proofs.Keeping.{left_from, kept_more, left_by_kept}
use Rattle.cql_operators.proofs.squares.settle.Goals as goal

pub loop-n-init : goal.loop-n-init
loop-n-init c = left_from c.args.left.now c.args.there.now
    (λ n. if c.args.every then not (holds (shown c.args.column.now n)) else holds (shown c.args.column.now n)) c.first_live-n.result c.first_live-n.ensures.none

pub loop-n-preserved : goal.loop-n-preserved
loop-n-preserved c =
    kept_more
    (λ n. not (get_or c.args.there.now n false && (if c.args.every then not (holds (shown c.args.column.now n)) else holds (shown c.args.column.now n))))
    c.args.left.now c.loop-n.left _ c.loop-n.n false c.keeps.result (omega (arith, c.loop-n-test.true, c.loop-n.auto.left, c.live_end-n-end.ensures.most, c.requires)) refl
    (c.keeps.ensures
    ∙ ap (λ b. get_or c.loop-n.left c.loop-n.n false
    && not (b && (if c.args.every then not (holds (shown c.args.column.now c.loop-n.n)) else holds (shown c.args.column.now c.loop-n.n)))) c.truth_at.ensures)
    c.loop-n.invariant

pub returns : goal.returns
returns c = left_by_kept c.args.every _ c.args.left.now c.args.there.now c.loop-n.left _ c.loop-n.n
    c.loop-n-test.false c.live_end-n-end.ensures.none c.loop-n.invariant
