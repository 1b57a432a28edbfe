use Rattle.std.proofs.Common.{◌∙◌, sym, arith}
use Rattle.cql_lines.specs.Internal.Cells.{both_kinds}
use Rattle.cql_lines.proofs.RowsLaw.{passed}
use Rattle.cql_lines.proofs.visits.merge_into_parent.Goals as goal

pub returns : goal.returns
returns g c =
    let s = c.args.shape.now in
    let up = sym c.joined_to.ensures ∙ c.in-Some.is in
    passed g.R.StateLengths.cells (both_kinds g.R.StateLengths.sets) s.primary s.tree_nodes.items c.args.node c.in-Some.above c.args.rows.now c.merge.new.self _ (g.R.StateLengths.cells c.args.own.now)
    up (let low = s.below c.args.node c.in-Some.above up in let size = c.requires.rows in let node = c.requires.node in omega arith) c.merge.ensures
