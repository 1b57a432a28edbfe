use Rattle.std.proofs.Common.{◌≡◌, ◌≤◌, ◌<◌, Ok, Err, refl, ap, ◌∙◌, arith, rules}
use Rattle.cq_common.specs.declared.faults.Refusal.TheVariants.{Fault}
use Rattle.pgn_batches.specs.declared.state.BatchFault.TheVariants.{ReadFault, ArchiveTooLong}
use Rattle.pgn_batches.specs.Whole.{cut_games}
use Rattle.pgn_json.specs.Writing.{pipe_of, sinks_of}
use Rattle.pgn_json.proofs.Entries.{few_faulty, kept_count}
use Rattle.pgn_json.proofs.Writings.{broke, ended, no_games, starved, stopped}
use Rattle.pgn_json.proofs.write_archive.write_archive.Goals as goal

pub visit_batches-requires-clause-nothing : goal.visit_batches-requires-clause-nothing
visit_batches-requires-clause-nothing g c =
    let shared = c.type_bounds.sync-R.shared in (
      (search rules, refl {a = c.args.writer.mark}),
      no_games c.args.writer.mark.now (sinks_of g.O.Sink.taken g.O.Sink.faults g.E.Sink.taken g.E.Sink.faults c.args.out.now c.args.err.now)
          c.args.writer.faulty c.requires.nothing,
    )

pub returns-in-Ok-All-clause-says : goal.returns-in-Ok-All-clause-says
returns-in-Ok-All-clause-says g c =
    let pipe = pipe_of g.S.Source.left g.S.Source.faults g.O.Sink.taken g.O.Sink.faults g.E.Sink.taken g.E.Sink.faults in
    let was = pipe c.args.source.now c.args.out.now c.args.err.now in
    let mid = pipe c.visit_batches.new.source c.visit_batches.new.out c.visit_batches.new.err in
    let now = pipe c.visit_batches.new.source c.visit_batches.new.out c.write_summary.new.err in
    let is = c.in-Ok-All.is ∙ ap Ok c.in-Ok-All.field-0-is in
    let says = rw is at c.visit_batches.ensures.says in
    let cause = rw is at c.visit_batches.ensures.cause in
    ended c.first_bytes_decide.ensures c.write_summary.result c.args.limit c.args.writer.mark.now was mid now c.visit_batches.new.visitor.faulty c.in-Ok-All.games
    (record { archive = says.archive; reads = says.reads; taken = says.taken.1; games_ = says.count_is; out_same = refl; counts = cause })
    c.write_summary.ensures

pub write_summary-requires : goal.write_summary-requires
write_summary-requires g c =
    let is = c.in-Ok-All.is ∙ ap Ok c.in-Ok-All.field-0-is in
    let says = rw is at c.visit_batches.ensures.says in
    let taken = says.taken.1 in
    let few = few_faulty taken.entries in
    let count = kept_count 1 (cut_games says.archive) taken.entries taken.are in
    let a = taken.count_is in
    let b = says.count_is in
    omega (arith, few, count, a, b)

pub returns-in-Ok-Early-clause-says : goal.returns-in-Ok-Early-clause-says
returns-in-Ok-Early-clause-says g c =
    let pipe = pipe_of g.S.Source.left g.S.Source.faults g.O.Sink.taken g.O.Sink.faults g.E.Sink.taken g.E.Sink.faults in
    let was = pipe c.args.source.now c.args.out.now c.args.err.now in
    let mid = pipe c.visit_batches.new.source c.visit_batches.new.out c.visit_batches.new.err in
    let is = c.in-Ok-Early.is ∙ ap Ok c.in-Ok-Early.field-0-is in
    let says = rw is at c.visit_batches.ensures.says in
    let cause = rw is at c.visit_batches.ensures.cause in
    stopped c.first_bytes_decide.ensures c.archives_come_in_batches.ensures c.in-Ok-Early.status c.args.limit c.args.writer.mark.now was mid says.0 says.1 says.2 says.3 cause

pub returns-in-Err-Fault-ReadFault-clause-says : goal.returns-in-Err-Fault-ReadFault-clause-says
returns-in-Err-Fault-ReadFault-clause-says g c =
    let pipe = pipe_of g.S.Source.left g.S.Source.faults g.O.Sink.taken g.O.Sink.faults g.E.Sink.taken g.E.Sink.faults in
    let was = pipe c.args.source.now c.args.out.now c.args.err.now in
    let mid = pipe c.visit_batches.new.source c.visit_batches.new.out c.visit_batches.new.err in
    let is : c.visit_batches.result ≡ Err (Fault ReadFault) = search rules in
    let says = rw is at c.visit_batches.ensures.says in
    let cause = rw is at c.visit_batches.ensures.cause in
    let all = broke c.first_bytes_decide.ensures c.archives_come_in_batches.ensures c.args.limit c.args.writer.mark.now was mid c.visit_batches.new.visitor.faulty (λ n. n ≤ c.args.limit) _ says in
    (all.0, cause, all.1)

pub returns-in-Err-Fault-ArchiveTooLong-clause-says : goal.returns-in-Err-Fault-ArchiveTooLong-clause-says
returns-in-Err-Fault-ArchiveTooLong-clause-says g c =
    let pipe = pipe_of g.S.Source.left g.S.Source.faults g.O.Sink.taken g.O.Sink.faults g.E.Sink.taken g.E.Sink.faults in
    let was = pipe c.args.source.now c.args.out.now c.args.err.now in
    let mid = pipe c.visit_batches.new.source c.visit_batches.new.out c.visit_batches.new.err in
    let is : c.visit_batches.result ≡ Err (Fault ArchiveTooLong) = search rules in
    let says = rw is at c.visit_batches.ensures.says in
    let cause = rw is at c.visit_batches.ensures.cause in
    let all = broke c.first_bytes_decide.ensures c.archives_come_in_batches.ensures c.args.limit c.args.writer.mark.now was mid c.visit_batches.new.visitor.faulty (λ n. c.args.limit < n) _ says in
    (all.0, cause, all.1)

pub returns-in-Err-NoMemory-clause-says : goal.returns-in-Err-NoMemory-clause-says
returns-in-Err-NoMemory-clause-says g c =
    let pipe = pipe_of g.S.Source.left g.S.Source.faults g.O.Sink.taken g.O.Sink.faults g.E.Sink.taken g.E.Sink.faults in
    let was = pipe c.args.source.now c.args.out.now c.args.err.now in
    let mid = pipe c.visit_batches.new.source c.visit_batches.new.out c.visit_batches.new.err in
    let is = c.in-Err-NoMemory.is ∙ ap Err c.in-Err-NoMemory.field-0-is in
    let says = rw is at c.visit_batches.ensures.says in
    let cause = rw is at c.visit_batches.ensures.cause in
    starved c.first_bytes_decide.ensures c.archives_come_in_batches.ensures c.args.limit c.args.writer.mark.now was mid c.visit_batches.new.visitor.faulty _ says cause
