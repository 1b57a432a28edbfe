use Rattle.std.proofs.Common.{map, slice_set, sym, subst}
use Rattle.std.proofs.lemmas.List.{map-set}
use Rattle.cql_lines.specs.Internal.Cells.{both_kinds}
use Rattle.cql_lines.specs.Internal.Passes.{IsUpdate}
use Rattle.cql_lines.proofs.visits.keep_lengths.Goals as goal

pub returns-then-shape : goal.returns-then-shape
returns-then-shape g c =
    let s = c.args.shape.now in
    subst (λ back. IsUpdate back (both_kinds g.R.StateLengths.sets) s.primary s.tree_nodes.items c.args.node (map g.R.StateLengths.cells c.args.rows.now)
    (map g.R.StateLengths.cells (slice_set c.args.rows.now c.args.node c.args.own.now)) (g.R.StateLengths.cells c.args.own.now))
    (sym c.if-shape.true) (map-set g.R.StateLengths.cells c.args.rows.now c.args.node c.args.own.now)
