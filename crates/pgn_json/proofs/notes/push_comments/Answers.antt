use Rattle.std.proofs.Common.{codes, map, ap, sym, ◌∙◌}
use Rattle.std.specs.Prelude.{◌==◌}
use Rattle.std.proofs.lemmas.List.{length-map}
use Rattle.cq_position.specs.Games.{node_at}
use Rattle.pgn_json.specs.Strings.{string_text}
use Rattle.pgn_json.proofs.Joined.{array_written}
use Rattle.pgn_json.proofs.notes.push_comments.Goals as goal

pub returns : goal.returns
returns c =
    let comments = (node_at c.args.game.now.nodes c.args.k).comments in
    array_written c.args.line.now c.push_all.new.self c.push_texts.new.line c.push_all-2.new.self (codes "comments") (map string_text comments)
    (ap (λ n. n == 0) (length-map comments string_text) ∙ sym c.has_none.ensures ∙ c.if-has_none.false)
    c.in_ok-push_all.ensures.ok c.in_ok-push_texts.ensures c.in_ok-push_all-2.ensures.ok
