use Rattle.std.proofs.Common.{◌≡◌, List, [], ℕ, rules, subst, sym, take}
use Rattle.cq_outside.specs.Flow.{Grew}
use Rattle.pgn_json.specs.Internal.Pages.{WaitsOf}
use Rattle.cq_program.specs.Views.{sink_view}
use Rattle.pgn_json.proofs.Pages.{none_waits, write_failed}
use Rattle.pgn_json.proofs.writing.write_page.Goals as goal

pub returns-in-Ok-clause-adds : goal.returns-in-Ok-clause-adds
returns-in-Ok-clause-adds g c = λ was before waits.
    let view = sink_view g.O.Sink.taken g.O.Sink.faults in
    let empty : c.clear.new.self.items ≡ [] = search rules in
    subst (WaitsOf before was (view c.write_all_of.new.sink)) (sym empty)
    (none_waits before c.args.page.now.items was (view c.args.out.now) (view c.write_all_of.new.sink) waits
    (subst (Grew (g.O.Sink.taken c.args.out.now) (g.O.Sink.taken c.write_all_of.new.sink)) c.as_slice.ensures.value c.in-Ok.ensures.ok) c.in-Ok.ensures.cause.same)

pub returns-in-Err-clause-adds : goal.returns-in-Err-clause-adds
returns-in-Err-clause-adds g c = λ was before waits.
    let view = sink_view g.O.Sink.taken g.O.Sink.faults in
    let part = c.in-Err.ensures.err in
    write_failed before c.args.page.now.items was (view c.args.out.now) (view c.write_all_of.new.sink) c.in-Err.failed waits
    (part.0, subst (λ (t : List ℕ). Grew (g.O.Sink.taken c.args.out.now) (g.O.Sink.taken c.write_all_of.new.sink) (take part.0 t)) c.as_slice.ensures.value part.1)
    c.in-Err.ensures.cause.failed
