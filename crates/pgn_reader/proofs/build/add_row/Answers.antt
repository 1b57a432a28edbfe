use Rattle.std.proofs.Common.{ℕ, [], ◌∷◌, ◌++◌, Some, ap, ◌∙◌}
use Rattle.std.specs.Prelude.{slice_index}
use Rattle.cq_position.specs.declared.moves.Move.{Move}
use Rattle.cq_position.specs.Board.{Board}
use Rattle.cq_position.specs.Games.{Game}
use Rattle.cq_position.specs.Continuations.{Played}
use Rattle.pgn_tree.specs.Notes.{Annotations, annotated_node}
use Rattle.pgn_reader.proofs.build.add_row.Goals as goal

pub returns-clause-node : goal.returns-clause-node
returns-clause-node c =
    let g : Game = c.args.game.now in
    let m : Played = c.args.row.move in
    let p : ℕ = slice_index c.args.way.now.items c.args.row.level in
    let notes : Annotations = record { nags = m.nags; comments = m.comments } in
    c.in_ok-k.ensures.ok
    ∙ ap {A = ℕ} {B = Game} (λ n. record g { nodes = g.nodes ++ annotated_node (Some n) (Some c.step-step.result) c.position.result.now c.into_notes.result ∷ [] })
    (c.parent_at.ensures ∙ ap (λ way. slice_index way c.level-level.result) c.deref.ensures.value ∙ ap (slice_index c.args.way.now.items) c.level-level.ensures)
    ∙ ap {A = Move} {B = Game} (λ s. record g { nodes = g.nodes ++ annotated_node (Some p) (Some s) c.position.result.now c.into_notes.result ∷ [] }) c.step-step.ensures
    ∙ ap {A = Board} {B = Game} (λ q. record g { nodes = g.nodes ++ annotated_node (Some p) (Some m.move) q c.into_notes.result ∷ [] }) c.position.ensures
    ∙ ap {A = Annotations} {B = Game} (λ n. record g { nodes = g.nodes ++ annotated_node (Some p) (Some m.move) m.position n ∷ [] }) c.into_notes.ensures
