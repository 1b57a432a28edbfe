use Rattle.std.proofs.Common.{◌≡◌, ◌+◌, ◌++◌, ◌<◌, ◌≤◌, Global, Vec, length, ap, ap₂, sym, ◌∙◌, arith}
use Rattle.std.specs.List.{flat_map}
use Rattle.std.proofs.lemmas.List.{take_all}
use Rattle.cq_report.specs.Games.{summary_line}
use Rattle.cq_shards.specs.declared.answers.GameAnswer.{GameAnswer}
use Rattle.cq_search.proofs.ManyEnds.{texts_more}
use Rattle.cq_search.proofs.outputs.summary_lines.Goals as goal

pub loop-i-preserved : goal.loop-i-preserved
loop-i-preserved c =
    let rows = c.args.rows.now in
    let i = c.loop-i.i in
    let row = c.index-rows-i.result in
    let inside : i < length rows = omega arith in
    let many : c.len-matched.result ≡ length row.items = omega arith in
    let line = c.as_slice.ensures ∙ c.in_ok-line.ensures ∙ ap (λ n. summary_line c.args.tally.games n c.args.tally.refused) many in
    c.in_ok-push_all.ensures.ok ∙ ap₂ (λ xs ys. xs ++ ys) c.loop-i.invariant line
    ∙ sym (texts_more (λ (r : Vec GameAnswer Global). summary_line c.args.tally.games (length r.items) c.args.tally.refused) rows i row inside c.index-rows-i.is)

pub returns : goal.returns
returns c =
    let all : length c.args.rows.now ≤ c.loop-i.i = omega arith in
    c.loop-i.invariant
    ∙ ap (flat_map (λ (row : Vec GameAnswer Global). summary_line c.args.tally.games (length row.items) c.args.tally.refused)) (take_all c.loop-i.i c.args.rows.now all)
