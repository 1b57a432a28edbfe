use Rattle.cq_program.specs.Views.{sink_view}
use Rattle.pgn_json.proofs.Pages.{page_starved}
use Rattle.pgn_json.proofs.writing.add_text.Goals as goal

pub returns-in-Err : goal.returns-in-Err
returns-in-Err g c = λ was before waits.
    let view = sink_view g.O.Sink.taken g.O.Sink.faults in
    page_starved before c.args.text.now c.args.page.now.items was (view c.args.out.now) waits
