use Rattle.std.proofs.Common.{refl}
use Rattle.cq_search.specs.SelfRun.{totals_written, generated_out_of_memory}
use Rattle.cq_search.proofs.selfrun.search_generated_archive.Goals as goal

pub returns-in-Ok : goal.returns-in-Ok
returns-in-Ok g c = λ err. totals_written c.in-Ok.totals c.in-Ok.ensures (c.write_totals.ensures err)

pub returns-in-Err : goal.returns-in-Err
returns-in-Err g c = λ err. generated_out_of_memory refl (record { out = refl; err = refl })
