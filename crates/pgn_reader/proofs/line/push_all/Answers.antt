use Rattle.std.proofs.Common.{◌++◌, sym, ap, ◌∙◌, append-nil}
use Rattle.std.proofs.lemmas.List.{nil_from_length}
use Rattle.pgn_reader.proofs.Groups.{item_added}
use Rattle.pgn_reader.proofs.line.push_all.Goals as goal

pub loop-row-preserved : goal.loop-row-preserved
loop-row-preserved c = item_added _ _ _ _ _ _ c.in_ok-push.ensures.items c.in-Some.ensures.steps.0 c.loop-row.invariant

pub returns : goal.returns
returns c =
    sym (append-nil c.loop-row.rows.items)
    ∙ ap (λ rest. c.loop-row.rows.items ++ rest) (sym (nil_from_length c.loop-row.row-iterator.rest.items (sym c.loop-row.row-iterator.rest.ok.0 ∙ c.in-None.ensures.steps.0)))
    ∙ c.loop-row.invariant
