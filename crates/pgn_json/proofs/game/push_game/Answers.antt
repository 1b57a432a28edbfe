use Rattle.std.proofs.Common.{◌++◌, codes, decimal, drop, map, ap, ◌∙◌}
use Rattle.std.specs.List.{flat_map}
use Rattle.cq_position.specs.FenText.{fen_of}
use Rattle.cq_position.specs.Games.{node_at, numbers}
use Rattle.pgn_json.specs.Json.{game_text, mark_members, node_text, note_members, tag_text}
use Rattle.pgn_tree.specs.Results.{result_text}
use Rattle.pgn_json.specs.Values.{array, member, next, plain}
use Rattle.pgn_json.proofs.Joined.{game_joined}
use Rattle.pgn_json.proofs.game.push_game.Goals as goal

pub returns : goal.returns
unfolding game_text
returns c =
    let g = c.args.game.now in
    let start = node_at g.nodes 0 in
    let tags = member (codes "tags") (array (map tag_text g.tags)) in
    let begins = member (codes "start") (plain (fen_of start.position)) in
    let result = member (codes "result") (plain (result_text g.result)) in
    let nodes = member (codes "nodes") (array (map (node_text c.args.mark.now g.nodes) (drop 1 (numbers g.nodes)))) in
    let tagged = c.in_ok-push_tags.ensures ∙ ap (λ t. c.push_place.new.line ++ next (member (codes "tags") (array (map tag_text t)))) c.tags.ensures
    ∙ ap (λ l. l ++ next tags) c.in_ok-push_place.ensures in
    c.in_ok-push_all.ensures.ok ∙ ap (λ l. l ++ codes "}") (c.in_ok-push_nodes.ensures ∙ ap (λ l. l ++ next nodes)
    (c.in_ok-push_mark.ensures ∙ ap (λ l. l ++ flat_map next (mark_members c.args.mark.now start))
    (c.in_ok-push_notes.ensures ∙ ap (λ l. l ++ flat_map next (note_members start)) (c.in_ok-push_start.ensures ∙ ap (λ l. l ++ (next begins ++ next result)) tagged))))
    ∙ game_joined c.args.line.now (member (codes "game") (decimal c.args.number)) (member (codes "byte") (decimal c.args.byte)) tags begins result nodes
    (note_members start) (mark_members c.args.mark.now start)
