use Rattle.std.proofs.Common.{refl}
use Rattle.cq_program.proofs.Views.{unwritten}
use Rattle.cq_program.proofs.usage.refuse_words.Goals as goal

pub returns-in-Ok : goal.returns-in-Ok
returns-in-Ok g c = λ out.
    (record { out = unwritten out.taken; err = c.in-Ok.ensures.ok }, record { out = refl; err = c.in-Ok.ensures.cause.same }, refl)

pub returns-in-Err : goal.returns-in-Err
returns-in-Err g c = λ out.
    let wrote = c.in-Err.ensures.err in
    (record { out_count = 0; err_count = wrote.0; out = unwritten out.taken; err = wrote.1 }, (c.in-Err.ensures.cause.failed, refl))
