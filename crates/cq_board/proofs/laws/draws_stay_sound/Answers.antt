use Rattle.cq_board.proofs.Drawing.{first_is_sound, draw_stays_sound as stays_sound, draws_stay_sound as stay_sound, reached_is_sound}
use Rattle.cq_board.proofs.laws.draws_stay_sound.Goals as goal

pub returns : goal.returns
returns c = record { first = first_is_sound; draw = stays_sound; draws = stay_sound; reached = reached_is_sound }
