use Rattle.cq_square_sets.proofs.Marked.{marks_one}
use Rattle.cq_square_sets.proofs.sets.set_of.Goals as goal

pub returns-in-Some : goal.returns-in-Some
returns-in-Some c = rw (c.in-Some.is, ← c.number.ensures.value) (marks_one c.number.result c.number.ensures.below)
