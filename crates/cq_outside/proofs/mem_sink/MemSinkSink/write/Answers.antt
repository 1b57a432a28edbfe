use Rattle.std.proofs.Common.{arith}
use Rattle.std.proofs.lemmas.Grind.{common_steps}
use Rattle.cq_outside.proofs.mem_sink.MemSinkSink.write.Goals as goal

pub returns-clause-answer : goal.returns-clause-answer
returns-clause-answer c = grind (arith, common_steps)

pub returns-clause-listed : goal.returns-clause-listed
returns-clause-listed c = grind (arith, common_steps)

pub returns-clause-state : goal.returns-clause-state
returns-clause-state c = grind (arith, common_steps)

pub returns-clause-bytes : goal.returns-clause-bytes
returns-clause-bytes c = grind (arith, common_steps)

pub returns-clause-bound : goal.returns-clause-bound
returns-clause-bound c = grind (arith, common_steps)

pub returns-clause-moves : goal.returns-clause-moves
returns-clause-moves c = grind (arith, common_steps)

pub returns-clause-cause : goal.returns-clause-cause
returns-clause-cause c = grind (arith, common_steps)

pub returns-then-fails_next-clause-listed : goal.returns-then-fails_next-clause-listed
returns-then-fails_next-clause-listed c = grind (arith, common_steps)

pub returns-then-fails_next-clause-state : goal.returns-then-fails_next-clause-state
returns-then-fails_next-clause-state c = grind (arith, common_steps)

pub returns-then-fails_next-clause-cause : goal.returns-then-fails_next-clause-cause
returns-then-fails_next-clause-cause c = grind (arith, common_steps)

pub returns-then-fails_next-clause-answer : goal.returns-then-fails_next-clause-answer
returns-then-fails_next-clause-answer c = grind (arith, common_steps)
