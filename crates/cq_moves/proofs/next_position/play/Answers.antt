use Rattle.cq_moves.proofs.Kept.{made_is_position}
use Rattle.cq_moves.proofs.next_position.play.Goals as goal

pub from_parts-requires : goal.from_parts-requires
from_parts-requires c =
    rw (c.men_after.ensures, c.opponent.ensures, c.side.ensures.side, c.rights_after.ensures, c.passant_after.ensures, c.number_after.ensures)
    (made_is_position c.args.position.now c.args.m c.side.ensures.kept c.requires)
