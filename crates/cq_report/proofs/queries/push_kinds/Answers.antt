use Rattle.std.proofs.Common.{codes}
use Rattle.cq_report.specs.Queries.{kind_text}
use Rattle.cq_report.proofs.Lines.{on_ok, two_more}
use Rattle.cq_report.proofs.queries.push_kinds.Goals as goal

pub returns : goal.returns
returns c =
    on_ok c.push_kind-2.result
    (λ e. two_more c.args.line.now c.push_kind.new.line c.push_kind-2.new.line (codes "kind mismatch, wanted ") (kind_text c.args.wanted) (codes ", found ") (kind_text c.args.found)
    c.in_ok-push_kind.ensures e) c.push_kind-2.ensures
