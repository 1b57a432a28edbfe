use Rattle.std.proofs.Common.{◌≡◌, ◌≤◌, length}
use Rattle.pgn_json.proofs.part_texts.no_texts.Given as goal

abbrev pub invariant-loop-place : goal.invariant-loop-place
invariant-loop-place l = (length l.places.items ≡ l._place) × (l._place ≤ l.games)
