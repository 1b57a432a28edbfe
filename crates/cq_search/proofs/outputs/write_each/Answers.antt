use Rattle.std.proofs.Common.{◌+◌, ◌<◌, ◌≤◌, Global, Vec, Ok, Err, length, map, take, drop, refl, sym, ap, ◌∙◌, subst, arith}
use Rattle.std.proofs.lemmas.List.{take_all}
use Rattle.cq_outside.specs.Faults.{Rose}
use Rattle.cq_outside.specs.Flow.{Grew}
use Rattle.cq_shards.specs.declared.answers.GameAnswer.{GameAnswer}
use Rattle.cq_search.specs.Exports.{exports_of}
use Rattle.cq_search.specs.ManyQueries.{output_of, outputs_from}
use Rattle.cq_search.specs.Internal.ManyWriting.{WritesOut}
use Rattle.cq_query_files.specs.Views.{sink_view}
use Rattle.cq_search.proofs.ManyEnds.{outputs_around, outputs_more, outputs_none, then_part}
use Rattle.cq_query_files.proofs.Sinks.{grew_on, unwritten}
use Rattle.cq_search.proofs.outputs.write_each.Goals as goal

pub loop-i-init : goal.loop-i-init
loop-i-init g c =
    let taken = g.O.Sink.taken c.args.out.now in
    (subst (Grew taken taken) (sym (outputs_none 1)) (unwritten taken), refl)

pub loop-i-preserved : goal.loop-i-preserved
loop-i-preserved g c =
    let out = sink_view g.O.Sink.taken g.O.Sink.faults in
    let taken = g.O.Sink.taken in
    let rows = c.args.rows.now in
    let i = c.loop-i.i in
    let row = c.index-rows-i.result in
    let inside : i < length rows = omega arith in
    let done = subst (λ xs. WritesOut (output_of (i + 1) (exports_of xs)) (out c.loop-i.out) (out c.write_output.new.out) (Ok tt)) c.as_slice.ensures.value c.in-Ok.ensures in (
      subst (Grew (taken c.args.out.now) (taken c.write_output.new.out))
          (sym (outputs_more (λ (r : Vec GameAnswer Global). exports_of r.items) rows i row inside c.index-rows-i.is))
          (grew_on (taken c.args.out.now) (taken c.loop-i.out) (taken c.write_output.new.out)
          (outputs_from 1 (map (λ (r : Vec GameAnswer Global). exports_of r.items) (take i rows))) (output_of (i + 1) (exports_of row.items)) c.loop-i.invariant.0 done.0),
      done.1 ∙ c.loop-i.invariant.1,
    )

pub returns-in-Err-Fault : goal.returns-in-Err-Fault
returns-in-Err-Fault g c =
    let out = sink_view g.O.Sink.taken g.O.Sink.faults in
    let taken = g.O.Sink.taken in
    let rows = c.args.rows.now in
    let i = c.loop-i.i in
    let row = c.index-rows-i.result in
    let inside : i < length rows = omega arith in
    let did = subst (λ xs. WritesOut (output_of (i + 1) (exports_of xs)) (out c.loop-i.out) (out c.write_output.new.out) c.write_output.result) c.as_slice.ensures.value
    c.write_output.ensures in
    let does = rw (c.in-Err-Fault.is ∙ ap Err c.in-Err-Fault.field-0-is) at did in (
      then_part (taken c.args.out.now) (taken c.loop-i.out) (taken c.write_output.new.out)
          (outputs_from 1 (map (λ (r : Vec GameAnswer Global). exports_of r.items) (take i rows))) (output_of (i + 1) (exports_of row.items))
          (outputs_from (1 + length (map (λ (r : Vec GameAnswer Global). exports_of r.items) (take (i + 1) rows)))
          (map (λ (r : Vec GameAnswer Global). exports_of r.items) (drop (i + 1) rows)))
          (outputs_from 1 (map (λ (r : Vec GameAnswer Global). exports_of r.items) rows))
          (outputs_around (λ (r : Vec GameAnswer Global). exports_of r.items) rows i row inside c.index-rows-i.is) c.loop-i.invariant.0 does.0,
      subst (λ n. Rose n (g.O.Sink.faults c.write_output.new.out)) c.loop-i.invariant.1 does.1,
    )

pub returns-in-Err-NoMemory : goal.returns-in-Err-NoMemory
returns-in-Err-NoMemory g c =
    let out = sink_view g.O.Sink.taken g.O.Sink.faults in
    let taken = g.O.Sink.taken in
    let rows = c.args.rows.now in
    let i = c.loop-i.i in
    let row = c.index-rows-i.result in
    let inside : i < length rows = omega arith in
    let did = subst (λ xs. WritesOut (output_of (i + 1) (exports_of xs)) (out c.loop-i.out) (out c.write_output.new.out) c.write_output.result) c.as_slice.ensures.value
    c.write_output.ensures in
    let does = rw (c.in-Err-NoMemory.is ∙ ap Err c.in-Err-NoMemory.field-0-is) at did in (
      then_part (taken c.args.out.now) (taken c.loop-i.out) (taken c.write_output.new.out)
          (outputs_from 1 (map (λ (r : Vec GameAnswer Global). exports_of r.items) (take i rows))) (output_of (i + 1) (exports_of row.items))
          (outputs_from (1 + length (map (λ (r : Vec GameAnswer Global). exports_of r.items) (take (i + 1) rows)))
          (map (λ (r : Vec GameAnswer Global). exports_of r.items) (drop (i + 1) rows)))
          (outputs_from 1 (map (λ (r : Vec GameAnswer Global). exports_of r.items) rows))
          (outputs_around (λ (r : Vec GameAnswer Global). exports_of r.items) rows i row inside c.index-rows-i.is) c.loop-i.invariant.0 does.0,
      does.1 ∙ c.loop-i.invariant.1,
    )

pub returns : goal.returns
returns g c =
    let rows = c.args.rows.now in
    let all : length rows ≤ c.loop-i.i = omega arith in (
      subst (λ xs. Grew (g.O.Sink.taken c.args.out.now) (g.O.Sink.taken c.loop-i.out) (outputs_from 1 (map (λ (r : Vec GameAnswer Global). exports_of r.items) xs)))
          (take_all c.loop-i.i rows all) c.loop-i.invariant.0,
      c.loop-i.invariant.1,
    )
