use Rattle.std.proofs.Common.{◌∷◌}
use Rattle.std.specs.List.{slice_range}
use Rattle.cq_position.specs.FenText.{rank_text}
use Rattle.cq_position.proofs.Joined.{in_a_row}
use Rattle.cq_position.proofs.fen.writing.push_lower_half.Goals as goal

pub returns : goal.returns
returns c =
    let men = c.args.men.now in
    rw (c.in_ok-push_next_rank-4.ensures, c.in_ok-push_next_rank-3.ensures, c.in_ok-push_next_rank-2.ensures, c.in_ok-push_next_rank.ensures)
    (in_a_row c.args.text.now (47 ∷ rank_text 0 (slice_range men 24 32)) (47 ∷ rank_text 0 (slice_range men 16 24))
    (47 ∷ rank_text 0 (slice_range men 8 16)) (47 ∷ rank_text 0 (slice_range men 0 8)))
