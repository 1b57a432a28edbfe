use Rattle.std.proofs.Common.{Err, ap, ◌∙◌}
use Rattle.cq_query_files.specs.Views.{desk_view}
use Rattle.cq_query_files.specs.Files.{no_memory_to_read}
use Rattle.cq_query_files.proofs.Opening.{opened_of}
use Rattle.cq_query_files.proofs.queries.text_in_file.Goals as goal

pub returns-in-Ok-read_up_to : goal.returns-in-Ok-read_up_to
returns-in-Ok-read_up_to g c =
    let view = desk_view g.D.Desk.told g.D.Source.left g.D.Source.faults g.D.Desk.open_faults in
    record {
      file = (view c.open.new.self).file;
      opened = opened_of c.args.name.now (view c.args.desk.now) (view c.open.new.self) (view c.read_up_to.new.source) c.in-Ok.ensures.opened c.in-Ok.ensures.reads
          (c.in-Ok.ensures.same (λ e. absurd cc)) (g.met.D.Desk.keeps_told c.open.new.self c.read_up_to.new.source c.read_up_to.ensures.next)
          (g.met.D.Desk.keeps_open_faults c.open.new.self c.read_up_to.new.source c.read_up_to.ensures.next);
      takes = c.in-Ok-read_up_to.ensures.bytes;
      few = c.in-Ok-read_up_to.ensures.most;
      whole = c.in-Ok-read_up_to.ensures.whole;
      faults = c.in-Ok-read_up_to.ensures.cause;
    }

pub returns-in-Err-Fault : goal.returns-in-Err-Fault
returns-in-Err-Fault g c =
    let view = desk_view g.D.Desk.told g.D.Source.left g.D.Source.faults g.D.Desk.open_faults in
    let is = c.in-Err-Fault.is ∙ ap Err c.in-Err-Fault.field-0-is in
    let cause = rw is at c.read_up_to.ensures.cause in
    let taken = rw is at c.read_up_to.ensures.taken in
    record {
      file = (view c.open.new.self).file;
      opened = opened_of c.args.name.now (view c.args.desk.now) (view c.open.new.self) (view c.read_up_to.new.source) c.in-Ok.ensures.opened c.in-Ok.ensures.reads
          (c.in-Ok.ensures.same (λ e. absurd cc)) (g.met.D.Desk.keeps_told c.open.new.self c.read_up_to.new.source c.read_up_to.ensures.next)
          (g.met.D.Desk.keeps_open_faults c.open.new.self c.read_up_to.new.source c.read_up_to.ensures.next);
      few = taken;
      rose = cause.1;
    }

pub returns-in-Err-NoMemory-read_up_to : goal.returns-in-Err-NoMemory-read_up_to
returns-in-Err-NoMemory-read_up_to g c =
    let view = desk_view g.D.Desk.told g.D.Source.left g.D.Source.faults g.D.Desk.open_faults in
    let is = c.in-Err-NoMemory-read_up_to.is ∙ ap Err c.in-Err-NoMemory-read_up_to.field-0-is in
    let cause = rw is at c.read_up_to.ensures.cause in
    let taken = rw is at c.read_up_to.ensures.taken in
    no_memory_to_read (view c.open.new.self).file
    (opened_of c.args.name.now (view c.args.desk.now) (view c.open.new.self) (view c.read_up_to.new.source) c.in-Ok.ensures.opened c.in-Ok.ensures.reads
    (c.in-Ok.ensures.same (λ e. absurd cc)) (g.met.D.Desk.keeps_told c.open.new.self c.read_up_to.new.source c.read_up_to.ensures.next)
    (g.met.D.Desk.keeps_open_faults c.open.new.self c.read_up_to.new.source c.read_up_to.ensures.next))
    taken cause
