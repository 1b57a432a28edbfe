use Rattle.std.proofs.Common.{◌∙◌, arith}
use Rattle.cql_lines.specs.Internal.Lengths.{at}
use Rattle.cql_lines.proofs.MasksLaw.{union_before, union_past}
use Rattle.cql_lines.proofs.length_sets.union_of.Goals as goal

pub loop-j-init : goal.loop-j-init
loop-j-init c = record {
  all = union_before c.args.mask (at c.args.row.now) c.first_place-j.result c.first_place-j.ensures.before;
  within = c.first_place-j.ensures.within;
}

pub returns : goal.returns
returns c =
    let end = c.loop-j-test.false in
    c.loop-j.invariant.all
    ∙ union_past c.args.mask (at c.args.row.now) c.loop-j.j c.args.count c.loop-j.invariant.within
    (λ j from less. c.past_places-j-end.ensures.past j (omega (arith, end, from)) less)
