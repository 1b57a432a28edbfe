use Rattle.std.proofs.Common.{◌+◌, ◌++◌, ◌<◌, ◌≤◌, drop, length, take, ap, rules, subst, sym, ◌∙◌}
use Rattle.std.proofs.lemmas.List.{take_all}
use Rattle.pgn_json.specs.Internal.Pages.{Adds, FailsIn}
use Rattle.pgn_json.specs.Internal.Texts.{all_lines}
use Rattle.cq_program.specs.Views.{sink_view}
use Rattle.pgn_json.specs.declared.texts.Texts.{Texts}
use Rattle.pgn_json.proofs.Pages.{fails_sooner, lines_more, lines_split, page_written}
use Rattle.pgn_json.proofs.writing.write_lines.Goals as goal

pub returns-in-Err : goal.returns-in-Err
returns-in-Err g c =
    let view = sink_view g.O.Sink.taken g.O.Sink.faults in
    let texts = c.args.texts.now in
    let i = c.loop-i.i in
    let t = c.index-texts-i.result in
    let less : i < length texts = search rules in
    let front = all_lines (take i texts) in
    let fails = subst (λ l. FailsIn (front ++ l) (view c.args.out.now) (view c.add_text.new.out) c.in-Err.refusal) (c.as_slice.ensures ∙ ap (λ (x : Texts). x.lines) (sym c.index-texts-i.is))
    (c.in-Err.ensures (view c.args.out.now) front c.loop-i.invariant) in
    fails_sooner (front ++ t.lines) (all_lines (drop (i + 1) texts)) (all_lines texts) (view c.args.out.now) (view c.add_text.new.out) c.in-Err.refusal
    (lines_split texts (i + 1) ∙ ap (λ l. l ++ all_lines (drop (i + 1) texts)) (lines_more texts i t less c.index-texts-i.is)) fails

pub returns : goal.returns
returns g c =
    let view = sink_view g.O.Sink.taken g.O.Sink.faults in
    let texts = c.args.texts.now in
    let all : length texts ≤ c.loop-i.i = search rules in
    page_written (all_lines texts) c.write_page.new.page.items (view c.args.out.now) (view c.write_page.new.out) c.write_page.result c.write_page.ensures.nothing
    (subst (λ l. Adds (all_lines l) (view c.args.out.now) (view c.write_page.new.out) c.write_page.new.page.items c.write_page.result) (take_all c.loop-i.i texts all)
    (c.write_page.ensures.adds (view c.args.out.now) (all_lines (take c.loop-i.i texts)) c.loop-i.invariant))
