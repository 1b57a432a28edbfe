use Rattle.std.proofs.Common.{ap, rules}
use Rattle.cq_outside.specs.MemSource.{FailingSource}
use Rattle.cq_outside.specs.MemDesk.{FailingDesk, files_of}
use Rattle.cq_outside.proofs.Entries.{opened_tells}
use Rattle.cq_outside.proofs.mem_desk.MemDeskDesk.open.Goals as goal

pub returns-clause-opened : goal.returns-clause-opened
returns-clause-opened c =
    let inside : FailingDesk = record {
      files = files_of c.self.inside.files.items;
      opened = c.self.inside.opened.items;
      current =
          c.self.inside.current;
      fails = c.self.inside.fails;
      opens = c.self.inside.opens;
      open_faults = c.self.inside.open_faults;
    } in
    opened_tells c.args.self.now inside c.push_name.new.names.items c.args.name.now c.in-Some.file.now c.in_ok-source.source c.self.view_is (search rules)
    (search rules) (ap (λ (s : FailingSource). s.left) c.in_ok-source.ensures)
