use Rattle.std.proofs.Common.{◌≡◌, length, take}
use Rattle.std.specs.List.{flat_map}
use Rattle.cq_report.specs.Games.{summary_line}
use Rattle.cq_search.proofs.outputs.summary_lines.Given as goal

abbrev pub invariant-loop-i : goal.invariant-loop-i
invariant-loop-i l = l.lines ≡ flat_map (λ row. summary_line l.tally.games (length row.items) l.tally.refused) (take l.i l.rows)
