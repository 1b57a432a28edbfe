use Rattle.cq_square_sets.proofs.Marked.{marks_same, marks_or, marks_and}
use Rattle.cq_position.specs.Attacks.{is_occupied}
use Rattle.cq_position.proofs.Attackers.{empty_seen}
use Rattle.cq_bits.proofs.Outward.{seen_attacks}
use Rattle.cq_bits.proofs.attacking.attackers_of.Goals as goal

pub returns : goal.returns
returns c =
    let men = c.args.men.now in
    let empty = empty_seen men _ c.squares_of-empty.ensures in
    marks_same _ _ _ (λ k low. seen_attacks men c.args.square k low)
    (marks_or _ _ _ _ (marks_or _ _ _ _
    (marks_and _ _ _ _ c.standing.ensures (c.rook_attacks.ensures (is_occupied men) empty))
    (marks_and _ _ _ _ c.standing-2.ensures (c.bishop_attacks.ensures (is_occupied men) empty)))
    c.leapers_of.ensures)
