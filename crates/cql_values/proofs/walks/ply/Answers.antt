use Rattle.std.proofs.Common.{arith}
use Rattle.cql_values.proofs.Ways.{way_length}
use Rattle.cql_values.proofs.walks.ply.Goals as goal

pub overflow_cast-result : goal.overflow_cast-result
overflow_cast-result c =
    let way = way_length c.args.game.now.nodes c.args.n c.in_ok-way.way.items c.requires.tree c.requires.node c.in_ok-way.ensures in
    omega (arith, way.few, c.len.ensures)

pub overflow_sub-result : goal.overflow_sub-result
overflow_sub-result c =
    let way = way_length c.args.game.now.nodes c.args.n c.in_ok-way.way.items c.requires.tree c.requires.node c.in_ok-way.ensures in
    omega (arith, way.some_, c.len.ensures)
