use Rattle.std.proofs.Common.{List, ap, ◌∙◌, arith}
use Rattle.std.proofs.lemmas.Result.{on_ok_weaker}
use Rattle.cq_position.specs.Games.{Node, Game, with_nag, with_node}
use Rattle.pgn_tree.proofs.Changed.{kept_set, within_items, nodes_set}
use Rattle.pgn_tree.proofs.NodeNotes.{nag_notes}
use Rattle.pgn_tree.proofs.game.Game.add_nag.Goals as goal

pub invariant_of-self : goal.invariant_of-self
invariant_of-self c =
    let within = within_items c.self.inside.nodes.items c.args.k (ap (λ g. g.nodes) c.self.view_is) c.requires in
    record {
      linked = kept_set c.self.inside.nodes.items c.args.k c.index_mut.result.now c.add_nag.new.self within c.index_mut.ensures.value c.add_nag.ensures.place c.self.invariant.linked;
      notes = nag_notes c.add_nag.result c.self.inside.nodes.items c.args.k c.args.nag c.index_mut.result.now c.add_nag.new.self within c.index_mut.ensures.value (omega (arith, c.well_formed))
          c.add_nag.ensures.ok c.add_nag.ensures.err c.self.invariant.notes;
    }

pub returns-clause-ok : goal.returns-clause-ok
returns-clause-ok c =
    on_ok_weaker c.add_nag.result (λ is.
    ap {A = List Node} {B = Game} (λ nodes. record { tags = c.self.inside.tags; result = c.self.inside.result; nodes = nodes })
    (nodes_set c.self.inside.nodes.items c.args.k c.index_mut.result.now c.add_nag.new.self (with_nag c.args.nag)
    (ap (λ g. g.nodes) c.self.view_is) c.requires c.index_mut.ensures.value (ap (λ y. y.node) is))
    ∙ ap {A = Game} {B = Game} (λ g. record g { nodes = with_node c.args.self.now.nodes c.args.k (with_nag c.args.nag) }) c.self.view_is)
    c.add_nag.ensures.ok
