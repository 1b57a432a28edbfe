use Rattle.std.proofs.Common.{◌<◌, length, sym, subst}
use Rattle.cq_position.specs.Games.{node_at}
use Rattle.cq_position.specs.Legal.{Leads}
use Rattle.pgn_json.specs.Json as json
use Rattle.pgn_json.proofs.Steps.{led_to, parent_low}
use Rattle.pgn_json.proofs.node.step_to.Goals as goal

pub returns-clause-low : goal.returns-clause-low
returns-clause-low c =
    subst (λ p. p < length c.args.game.now.nodes) (sym c.parent_of.ensures)
    (parent_low c.args.game.now.nodes c.args.k c.is_tree.ensures.tree c.requires.start c.requires.node)

pub returns-clause-leads : goal.returns-clause-leads
returns-clause-leads c =
    let nodes = c.args.game.now.nodes in
    let here = (node_at nodes c.args.k).position in
    subst (λ p. Leads (node_at nodes p).position c.move_of.result here) (sym c.parent_of.ensures)
    (subst (λ m. Leads (node_at nodes (json.parent_of (node_at nodes c.args.k))).position m here) (sym c.move_of.ensures)
    (led_to nodes c.args.k c.is_tree.ensures.tree c.requires.start c.requires.node))
