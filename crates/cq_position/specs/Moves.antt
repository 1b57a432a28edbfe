-- Moves.
use Rattle.std.specs.Prelude.{true}
use Rattle.cq_position.specs.declared.men.Promotion.TheVariants.{None as NoPromotion}
use Rattle.cq_position.specs.declared.moves.Move.{Move}

-- the null move, by which a side passes
abbrev pub null_move : Move
null_move = record { from = 0; to = 0; promotion = NoPromotion; null = true }
