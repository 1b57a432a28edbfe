use Rattle.std.proofs.Common.{◌∙◌, ap, get_or, sym, arith}
use Rattle.cq_shared.specs.Interning.{all_shown}
use Rattle.cq_shared.specs.Singles.{shown}
use Rattle.cq_shared.proofs.Gaining.{shown_length, shown_read}
use Rattle.cq_shared.proofs.Seeking.{at_past, at_read}
use Rattle.cq_shared.proofs.interning.is_same.Goals as goal

pub returns-then-number-parts : goal.returns-then-number-parts
returns-then-number-parts c =
    sym (at_past (all_shown c.args.parts.now) c.args.number (shown c.args.single.now) (omega (arith, c.if-number-parts.true, shown_length c.args.parts.now)))

pub returns : goal.returns
returns c =
    let p = get_or c.args.parts.now c.args.number c.index-parts-number.result in
    let reads = ap (get_or c.args.parts.now c.args.number) c.index-parts-number.is in
    c.same_single.ensures
    ∙ sym (at_read (all_shown c.args.parts.now) c.args.number (shown p.single) (shown c.args.single.now)
    (omega (arith, c.if-number-parts.false, shown_length c.args.parts.now))
    (shown_read c.args.parts.now c.args.number p reads (omega (arith, c.if-number-parts.false))))
