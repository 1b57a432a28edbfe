use Rattle.cq_query_files.specs.Views.{desk_view}
use Rattle.cq_run.specs.Run.{archive_answered}
use Rattle.cq_query_files.proofs.Opening.{opened_of}
use Rattle.cq_run.proofs.top_call.search_file.Goals as goal

pub returns-in-Ok : goal.returns-in-Ok
returns-in-Ok g c =
    let view = desk_view g.D.Desk.told g.D.Source.left g.D.Source.faults g.D.Desk.open_faults in
    archive_answered (view c.open.new.self).file
    (opened_of c.args.archive.now (view c.args.desk.now) (view c.open.new.self) (view c.search_archive.new.source) c.in-Ok.ensures.opened c.in-Ok.ensures.reads
    (c.in-Ok.ensures.same (λ e. absurd cc)) (g.met.D.Desk.keeps_told c.open.new.self c.search_archive.new.source c.search_archive.ensures.next)
    (g.met.D.Desk.keeps_open_faults c.open.new.self c.search_archive.new.source c.search_archive.ensures.next))
    c.search_archive.ensures.answers
