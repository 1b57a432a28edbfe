use Rattle.cq_san.proofs.Leftover.{first_of_five}
use Rattle.cq_san.proofs.origins.is_plain_and_legal.Goals as goal

pub is_legal_seen-requires-clause-piece : goal.is_legal_seen-requires-clause-piece
is_legal_seen-requires-clause-piece c = first_of_five _ _ _ _ _ c.requires.agrees
