use Rattle.std.proofs.Common.{◌∷◌, ◌++◌, drop, ◌∙◌}
use Rattle.std.specs.List.{slice_range, join_with_byte}
use Rattle.std.proofs.lemmas.List.{append_assoc}
use Rattle.cq_position.specs.FenText.{rank_text, rank_texts}
use Rattle.cq_position.proofs.Joined.{in_a_row}
use Rattle.cq_position.proofs.fen.writing.push_placement.Goals as goal

pub returns : goal.returns
returns c =
    let men = c.args.men.now in
    let first = rank_text 0 (slice_range men 56 64) in
    rw (
      c.in_ok-push_lower_half.ensures,
      c.in_ok-push_next_rank-3.ensures,
      c.in_ok-push_next_rank-2.ensures,
      c.in_ok-push_next_rank.ensures,
      c.in_ok-push_rank.ensures,
    )
    (in_a_row (c.args.text.now ++ first) (47 ∷ rank_text 0 (slice_range men 48 56)) (47 ∷ rank_text 0 (slice_range men 40 48))
    (47 ∷ rank_text 0 (slice_range men 32 40)) (47 ∷ join_with_byte 47 (drop 4 (rank_texts men)))
    ∙ append_assoc c.args.text.now first _)
