use Rattle.std.proofs.Common.{◌++◌, codes, decimal, ap, ap₂, ◌∙◌}
use Rattle.std.specs.List.{flat_map}
use Rattle.cq_position.specs.Games.{node_at}
use Rattle.cq_position.specs.Search.{ply}
use Rattle.cq_san.specs.Writing.{san_text}
use Rattle.pgn_json.specs.Json.{fen_members, move_of, node_text, note_members, parent_of}
use Rattle.pgn_json.specs.Moves.{uci_text}
use Rattle.pgn_json.specs.Values.{member, next, plain}
use Rattle.pgn_json.proofs.Joined.{node_joined}
use Rattle.pgn_json.proofs.node.push_node.Goals as goal

pub returns : goal.returns
unfolding node_text
returns c =
    let nodes = c.args.game.now.nodes in
    let n = node_at nodes c.args.k in
    let m = move_of n in
    let here = c.step_to-parent.ensures in
    let place = c.in_ok-push_place.ensures
    ∙ ap₂ (λ p l. c.args.line.now ++ (codes "{" ++ (member (codes "parent") (decimal p) ++ next (member (codes "ply") (decimal l))))) here.parent c.requires.ply in
    let led = c.in_ok-push_move.ensures
    ∙ ap₂ (λ p m. c.push_place.new.line ++ (next (member (codes "uci") (plain (uci_text m))) ++ next (member (codes "san") (plain (san_text p m)))))
    (c.position.ensures ∙ ap (λ k. (node_at nodes k).position) here.parent) here.led in
    let uci = member (codes "uci") (plain (uci_text m)) in
    let san = member (codes "san") (plain (san_text (node_at nodes (parent_of n)).position m)) in
    c.in_ok-push_all.ensures.ok ∙ ap (λ l. l ++ codes "}") (c.in_ok-push_fen.ensures ∙ ap (λ l. l ++ flat_map next (fen_members c.args.mark.now n))
    (c.in_ok-push_notes.ensures ∙ ap (λ l. l ++ flat_map next (note_members n)) (led ∙ ap (λ l. l ++ (next uci ++ next san)) place)))
    ∙ node_joined c.args.line.now (member (codes "parent") (decimal (parent_of n))) (member (codes "ply") (decimal (ply nodes c.args.k))) uci san
    (note_members n) (fen_members c.args.mark.now n)
