use Rattle.std.proofs.Common.{◌++◌, [], refl, subst, sym}
use Rattle.pgn_json.specs.Internal.Pages.{WaitsOf}
use Rattle.cq_program.specs.Views.{sink_view}
use Rattle.pgn_json.proofs.Pages.{fails_sooner, none_waits, waits_more, write_failed}
use Rattle.pgn_json.proofs.writing.write_long.Goals as goal

pub returns-in-Err : goal.returns-in-Err
returns-in-Err g c = λ was before waits.
    let view = sink_view g.O.Sink.taken g.O.Sink.faults in
    fails_sooner before c.args.text.now (before ++ c.args.text.now) was (view c.write_page.new.out) c.in-Err.refusal refl (c.in-Err.ensures.adds was before waits)

pub returns-in-Ok-write_all_of : goal.returns-in-Ok-write_all_of
returns-in-Ok-write_all_of g c = λ was before waits.
    let view = sink_view g.O.Sink.taken g.O.Sink.faults in
    let text = c.args.text.now in
    let mid = view c.write_page.new.out in
    let now = view c.write_all_of.new.sink in
    let gone = subst (WaitsOf before was mid) c.in-Ok.ensures.nothing (c.in-Ok.ensures.adds was before waits) in
    let more = waits_more before text [] text was mid refl gone in
    subst (WaitsOf (before ++ text) was now) (sym c.in-Ok.ensures.nothing)
    (none_waits (before ++ text) text was mid now more c.in-Ok-write_all_of.ensures.ok c.in-Ok-write_all_of.ensures.cause.same)

pub returns-in-Err-write_all_of : goal.returns-in-Err-write_all_of
returns-in-Err-write_all_of g c = λ was before waits.
    let view = sink_view g.O.Sink.taken g.O.Sink.faults in
    let text = c.args.text.now in
    let mid = view c.write_page.new.out in
    let gone = subst (WaitsOf before was mid) c.in-Ok.ensures.nothing (c.in-Ok.ensures.adds was before waits) in
    write_failed (before ++ text) text was mid (view c.write_all_of.new.sink) c.in-Err-write_all_of.failed (waits_more before text [] text was mid refl gone)
    c.in-Err-write_all_of.ensures.err c.in-Err-write_all_of.ensures.cause.failed
