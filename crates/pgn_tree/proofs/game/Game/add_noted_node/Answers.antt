use Rattle.std.proofs.Common.{◌≡◌, ◌++◌, ◌∷◌, [], Some, Ok, Err, refl, sym, ap, ◌∙◌, subst, List, length, length-append, arith}
use Rattle.std.specs.Prelude.{Result, OnErr}
use Rattle.cq_position.specs.Games.{Node, Game, HaveNotes}
use Rattle.pgn_tree.specs.Links.{HasKeptAnnotations, LinkedNode, nodes_of}
use Rattle.pgn_tree.specs.Notes.{annotated_node}
use Rattle.pgn_tree.proofs.LinkedNode.{grown, last_within}
use Rattle.pgn_tree.proofs.Linking.{length_nodes_of}
use Rattle.pgn_tree.proofs.NodeNotes.{new_notes}
use Rattle.pgn_tree.proofs.game.Game.add_noted_node.Goals as goal

pub link-requires-clause-last : goal.link-requires-clause-last
link-requires-clause-last c =
    last_within c.self.inside.nodes.items c.push.new.self.items c.new.result c.args.parent (ap (λ g. g.nodes) c.self.view_is) c.in_ok-push.ensures.items c.requires.node c.self.invariant.linked

pub invariant_of-self-2 : goal.invariant_of-self-2
invariant_of-self-2 c =
    let new =
    grown c.self.inside.nodes.items c.push.new.self.items c.link.new.nodes.items c.new.result c.index.result.now
    (annotated_node (Some c.args.parent) (Some c.args.m) c.args.p c.args.notes) c.begins_main_line-main.result c.args.parent c.len-number.result c.args.self.now.nodes
    (ap (λ g. g.nodes) c.self.view_is) c.in_ok-push.ensures.items c.new.ensures c.link.ensures (omega (arith, c.len-number.ensures)) c.requires.node c.requires.few
    (record { number = c.args.parent; move = c.args.m; parent = refl; led_by = refl; within = c.requires.node; leads = c.requires.leads; preorder = c.requires.preorder })
    refl c.index.ensures c.begins_main_line-main.ensures c.self.invariant.linked in
    record {
      linked = new.kept;
      notes = subst HaveNotes (sym new.nodes_are)
          (new_notes c.args.self.now.nodes (annotated_node (Some c.args.parent) (Some c.args.m) c.args.p c.args.notes)
          (record { nags = c.are_kept.ensures.kept.nags; comments = c.are_kept.ensures.kept.comments }) (subst HaveNotes (ap (λ g. g.nodes) c.self.view_is) c.self.invariant.notes));
    }

pub returns-clause-ok : goal.returns-clause-ok
returns-clause-ok c =
    ap {A = List Node} {B = Game} (λ nodes. record { tags = c.self.inside.tags; result = c.self.inside.result; nodes = nodes })
    (grown c.self.inside.nodes.items c.push.new.self.items c.link.new.nodes.items c.new.result c.index.result.now
    (annotated_node (Some c.args.parent) (Some c.args.m) c.args.p c.args.notes) c.begins_main_line-main.result c.args.parent c.len-number.result c.args.self.now.nodes
    (ap (λ g. g.nodes) c.self.view_is) c.in_ok-push.ensures.items c.new.ensures c.link.ensures (omega (arith, c.len-number.ensures)) c.requires.node c.requires.few
    (record { number = c.args.parent; move = c.args.m; parent = refl; led_by = refl; within = c.requires.node; leads = c.requires.leads; preorder = c.requires.preorder })
    refl c.index.ensures c.begins_main_line-main.ensures c.self.invariant.linked).nodes_are
    ∙ ap {A = Game} {B = Game} (λ g. record g { nodes = c.args.self.now.nodes ++ annotated_node (Some c.args.parent) (Some c.args.m) c.args.p c.args.notes ∷ [] }) c.self.view_is

pub returns-clause-number : goal.returns-clause-number
returns-clause-number c =
    let number : c.len-number.result ≡ length c.self.inside.nodes.items = omega (arith, c.len-number.ensures) in
    number ∙ sym (length_nodes_of c.self.inside.nodes.items) ∙ ap (λ g. length g.nodes) c.self.view_is

pub link-requires-clause-parent : goal.link-requires-clause-parent
link-requires-clause-parent c =
    let items = c.self.inside.nodes.items in
    let longer = ap length c.in_ok-push.ensures.items ∙ length-append items (c.new.result ∷ []) in
    omega (arith, c.requires.node, length_nodes_of items, ap (λ g. length g.nodes) c.self.view_is, longer)

-- out of memory nothing has changed
pub invariant_of-self : goal.invariant_of-self
invariant_of-self c = subst HasKeptAnnotations (sym c.in_err-push.ensures.items) c.self.invariant

in_any_case : {T E : Type 0} (r : Result T E) (P : Type 0) → P → OnErr r P
in_any_case (Ok x) P p = tt
in_any_case (Err e) P p = p

pub returns-in_err-push-clause-err : goal.returns-in_err-push-clause-err
returns-in_err-push-clause-err c =
    in_any_case c.from_residual.result _
    (ap {A = List LinkedNode} {B = Game} (λ items. record { tags = c.self.inside.tags; result = c.self.inside.result; nodes = nodes_of items })
    c.in_err-push.ensures.items
    ∙ c.self.view_is)
