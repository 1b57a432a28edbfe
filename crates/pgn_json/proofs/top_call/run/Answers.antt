use Rattle.std.proofs.Common.{Err, List, ℕ, map, refl, rules, subst, ap, ◌∙◌}
use Rattle.std.specs.String.{string_bytes}
use Rattle.cq_outside.specs.DeskFiles.{Opens}
use Rattle.cq_program.proofs.Opening.{opened_of, unopened_of}
use Rattle.cq_program.specs.Views.{desk_view, sink_view, source_view}
use Rattle.pgn_json.proofs.Promised.{games_promised, refusal_promised, unopened_promised}
use Rattle.pgn_json.proofs.top_call.run.Goals as goal

pub returns-in-Ok-open : goal.returns-in-Ok-open
returns-in-Ok-open g c =
    let view = desk_view g.D.Desk.told g.D.Source.left g.D.Source.faults g.D.Desk.open_faults in
    games_promised (map string_bytes c.args.words.now) c.write_archive.result _ c.in-Ok.job (source_view g.D.Source.left g.D.Source.faults c.open.new.self) _
    c.in-Ok.ensures.value c.in-Ok.ensures.taken (search rules)
    (opened_of c.in-Ok.job.archive (view c.args.desk.now) (view c.open.new.self) (view c.write_archive.new.source)
    (subst (λ (name : List ℕ). Opens (g.D.Desk.told c.args.desk.now) (g.D.Desk.told c.open.new.self) name (g.D.Source.left c.open.new.self)) (search rules) c.in-Ok-open.ensures.opened)
    c.in-Ok-open.ensures.reads (c.in-Ok-open.ensures.same (λ e. absurd cc))
    (g.met.D.Desk.keeps_told c.open.new.self c.write_archive.new.source c.write_archive.ensures.next)
    (g.met.D.Desk.keeps_open_faults c.open.new.self c.write_archive.new.source c.write_archive.ensures.next))
    c.write_archive.ensures.says

pub returns-in-Err-Failed : goal.returns-in-Err-Failed
returns-in-Err-Failed g c =
    let view = desk_view g.D.Desk.told g.D.Source.left g.D.Source.faults g.D.Desk.open_faults in
    unopened_promised (map string_bytes c.args.words.now) (view c.args.desk.now) (view c.open.new.self) _ c.in-Ok.job c.in-Ok.ensures.value c.in-Ok.ensures.taken
    (unopened_of (view c.args.desk.now) (view c.open.new.self) (c.in-Err-Failed.ensures.failed (ap Err c.in-Err-Failed.field-0-is))
    c.in-Err-Failed.ensures.told c.in-Err-Failed.ensures.left c.in-Err-Failed.ensures.reads) (record { out = refl; err = refl })

pub returns-in-Err-Fault : goal.returns-in-Err-Fault
returns-in-Err-Fault g c =
    let is = c.in-Err-Fault.is ∙ ap Err c.in-Err-Fault.field-0-is in
    let value = rw is at c.read_words.ensures.value in
    let taken = rw is at c.read_words.ensures.taken in
    refusal_promised (map string_bytes c.args.words.now) c.refuse_words.result (desk_view g.D.Desk.told g.D.Source.left g.D.Source.faults g.D.Desk.open_faults c.args.desk.now) _ _ value taken
    (c.refuse_words.ensures (sink_view g.O.Sink.taken g.O.Sink.faults c.args.out.now))
