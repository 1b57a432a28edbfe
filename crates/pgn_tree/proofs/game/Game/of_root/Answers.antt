use Rattle.std.proofs.Common.{◌++◌, ◌∷◌, [], None, refl, subst, sym, ap₂, ◌∙◌}
use Rattle.pgn_tree.specs.Links.{HasKeptAnnotations}
use Rattle.pgn_tree.specs.Notes.{annotated_node}
use Rattle.pgn_tree.proofs.LinkedNode.{root_linked}
use Rattle.pgn_tree.proofs.NodeNotes.{first_notes}
use Rattle.pgn_tree.proofs.game.Game.of_root.Goals as goal

pub invariant_of-result : goal.invariant_of-result
invariant_of-result c =
    subst HasKeptAnnotations (sym (c.in_ok-push.ensures.items ∙ ap₂ (λ l x. l ++ x ∷ []) c.new-nodes.ensures.items c.new.ensures))
    (record {
      linked = root_linked (annotated_node None None c.args.start c.args.notes) (record { parent = refl; led_by = refl });
      notes = first_notes (annotated_node None None c.args.start c.args.notes) (record { nags = c.are_kept.ensures.kept.nags; comments = c.are_kept.ensures.kept.comments });
    })
