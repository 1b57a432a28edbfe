use Rattle.std.proofs.Common.{◌≡◌, drop}
use Rattle.std.specs.List.{list_any}
use Rattle.std.specs.Str.{bytes_eq}
use Rattle.cq_position.specs.Games.{node_at}
use Rattle.pgn_json.proofs.notes.has_comment.Given as goal

-- it is none of those before
abbrev pub invariant-loop-i : goal.invariant-loop-i
invariant-loop-i l =
    list_any (λ c. bytes_eq c l.text) (drop l.i (node_at l.game.nodes l.k).comments)
    ≡ list_any (λ c. bytes_eq c l.text) (node_at l.game.nodes l.k).comments
