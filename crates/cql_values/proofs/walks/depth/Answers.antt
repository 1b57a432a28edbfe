use Rattle.std.proofs.Common.{◌<◌, length, arith, subst, sym}
use Rattle.cql_values.proofs.Ranges.{at_most_one}
use Rattle.cql_values.proofs.Ways.{way_length, on_way}
use Rattle.cql_values.proofs.walks.depth.Goals as goal

pub begins_variation-requires : goal.begins_variation-requires
begins_variation-requires c =
    let nodes = c.args.game.now.nodes in
    let way = c.in_ok-way.way.items in
    let here : c.loop-k.k < length way = omega (arith, c.loop-k-test.true, c.len-k-end.ensures) in
    let low = on_way nodes c.args.n c.loop-k.k c.index.result.now way c.requires.tree c.requires.node c.in_ok-way.ensures here in
    subst (λ m. m < length nodes) (sym c.index.ensures) low

pub overflow_add-count : goal.overflow_add-count
overflow_add-count c =
    let way = way_length c.args.game.now.nodes c.args.n c.in_ok-way.way.items c.requires.tree c.requires.node c.in_ok-way.ensures in
    let one = at_most_one c.begins_variation.result in
    omega (arith, way.few, one, c.one_if-count.ensures, c.loop-k.invariant.few, c.loop-k-test.true, c.len-k-end.ensures)
