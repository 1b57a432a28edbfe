use Rattle.std.proofs.Common.{◌≤◌, rules}
use Rattle.cql_lines.proofs.RowsLaw.{united_all}
use Rattle.cql_lines.proofs.length_sets.merge.Goals as goal

pub returns : goal.returns
returns c =
    let done : c.args.count ≤ c.loop-j.j = search rules in
    let end : c.loop-j.j ≤ c.args.count = search rules in
    united_all c.loop-j.j c.loop-j.row c.args.row.now c.args.own.now c.loop-j.invariant.raised c.loop-j.invariant.kept (λ i past. c.requires.past i (search rules))
