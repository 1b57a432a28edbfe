use Rattle.std.proofs.Common.{sym, ◌∙◌}
use Rattle.cq_geometry.specs.Lines.{is_open, is_orthogonal}
use Rattle.cq_position.specs.Attacks.{is_occupied}
use Rattle.cq_position.specs.Board.{man_at}
use Rattle.cq_position.specs.AttackTest.{is_orthogonal_slider}
use Rattle.cq_position.proofs.Attackers.{empty_seen, none_on_lines}
use Rattle.cq_position.proofs.attack_test.is_attacked_orthogonally.Goals as goal

pub returns-then-meets : goal.returns-then-meets
returns-then-meets c =
    c.meets-then-meets.ensures _ _ c.orthogonal_sliders-attackers.ensures
    (c.rook_attacks.ensures (is_occupied c.args.men.now) (empty_seen c.args.men.now c.squares_of.result c.squares_of.ensures))

pub returns-else-meets : goal.returns-else-meets
returns-else-meets c =
    let none = sym (c.meets.ensures _ _ c.orthogonal_sliders-attackers.ensures c.rook_lines.ensures) ∙ c.if-meets.false in
    c.if-meets.false
    ∙ sym (none_on_lines (λ a. is_orthogonal_slider c.args.by (man_at c.args.men.now a)) (is_orthogonal c.args.square) (is_open (is_occupied c.args.men.now) c.args.square) none)
