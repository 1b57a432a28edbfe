use Rattle.std.proofs.Common.{take}
use Rattle.pgn_json.specs.Internal.Pages.{WaitsOf}
use Rattle.pgn_json.specs.Internal.Texts.{all_lines}
use Rattle.cq_program.specs.Views.{sink_view}
use Rattle.pgn_json.proofs.writing.write_lines.Given as goal

abbrev pub invariant-loop-i : goal.invariant-loop-i
invariant-loop-i g l =
    let view = sink_view g.O.Sink.taken g.O.Sink.faults in
    WaitsOf (all_lines (take l.i l.texts)) (view l.fn.out) (view l.out) l.page.items
