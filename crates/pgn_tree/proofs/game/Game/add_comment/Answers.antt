use Rattle.std.proofs.Common.{List, ap, ◌∙◌}
use Rattle.std.proofs.lemmas.Result.{on_ok_weaker}
use Rattle.cq_position.specs.Games.{Node, Game, with_comment, with_node}
use Rattle.pgn_tree.proofs.Words.{brace_free}
use Rattle.pgn_tree.proofs.Changed.{kept_set, within_items, nodes_set}
use Rattle.pgn_tree.proofs.NodeNotes.{comment_notes}
use Rattle.pgn_tree.proofs.game.Game.add_comment.Goals as goal

pub invariant_of-self : goal.invariant_of-self
invariant_of-self c =
    let within = within_items c.self.inside.nodes.items c.args.k (ap (λ g. g.nodes) c.self.view_is) c.requires.node in
    record {
      linked = kept_set c.self.inside.nodes.items c.args.k c.index_mut.result.now c.add_comment.new.self within c.index_mut.ensures.value c.add_comment.ensures.place c.self.invariant.linked;
      notes = comment_notes c.add_comment.result c.self.inside.nodes.items c.args.k c.args.text.now c.index_mut.result.now c.add_comment.new.self within
          c.index_mut.ensures.value c.add_comment.ensures.ok c.add_comment.ensures.err c.self.invariant.notes;
    }

pub returns-clause-ok : goal.returns-clause-ok
returns-clause-ok c =
    on_ok_weaker c.add_comment.result (λ is.
    ap {A = List Node} {B = Game} (λ nodes. record { tags = c.self.inside.tags; result = c.self.inside.result; nodes = nodes })
    (nodes_set c.self.inside.nodes.items c.args.k c.index_mut.result.now c.add_comment.new.self (with_comment c.args.text.now)
    (ap (λ g. g.nodes) c.self.view_is) c.requires.node c.index_mut.ensures.value
    (ap (λ y. y.node) is ∙ ap (λ t. with_comment t c.index_mut.result.now.node) (brace_free c.args.text.now c.requires.brace)))
    ∙ ap {A = Game} {B = Game} (λ g. record g { nodes = with_node c.args.self.now.nodes c.args.k (with_comment c.args.text.now) }) c.self.view_is)
    c.add_comment.ensures.ok
