use Rattle.std.proofs.Common.{sym, subst, rules}
use Rattle.cq_position.specs.Games.{node_at}
use Rattle.cq_position.specs.Legal.{Leads}
use Rattle.pgn_export.proofs.Places.{led_from, parent_within}
use Rattle.pgn_export.proofs.movetext.write_move.Goals as goal

pub position-requires : goal.position-requires
position-requires c = parent_within c.args.game.now.nodes c.is_tree.ensures.tree c.args.parent c.args.k c.requires.node c.requires.parent

pub write_san-requires : goal.write_san-requires
write_san-requires c =
    let nodes = c.args.game.now.nodes in
    let led = led_from nodes c.is_tree.ensures.tree c.args.parent c.args.k c.in-Some.m c.requires.node c.requires.parent (search rules) in
    subst (λ q. Leads c.position.result.now c.in-Some.m q) (sym c.position-2.ensures)
    (subst (λ p. Leads p c.in-Some.m (node_at nodes c.args.k).position) (sym c.position.ensures) led.leads)
