use Rattle.std.proofs.Common.{◌≡◌, ◌∙◌, ◌++◌, ◌∷◌, [], ap, sym, arith, length}
use Rattle.std.specs.Prelude.{cond}
use Rattle.std.specs.List.{filter, range_with_len}
use Rattle.cql_columns.specs.Columns.{is_live}
use Rattle.cq_shared.proofs.Readings.{there_more}
use Rattle.cq_shared.proofs.collecting.hits.Goals as goal

pub loop-n-preserved : goal.loop-n-preserved
loop-n-preserved c =
    let there = c.args.nodes.now.there.items in
    c.in_ok-push_if.ensures ∙ ap (λ found. found ++ cond c.is_there-there.result (c.loop-n.n ∷ []) []) c.loop-n.invariant
    ∙ ap (λ b. filter (is_live there) (range_with_len 0 c.loop-n.n) ++ cond b (c.loop-n.n ∷ []) []) c.is_there-there.ensures
    ∙ sym (there_more there c.loop-n.n)

pub returns : goal.returns
returns c =
    let all : c.loop-n.n ≡ length c.args.game.now.nodes = omega (arith, c.loop-n-test.false, c.loop-n.auto.n-end, c.len-n-end.ensures.len) in
    c.loop-n.invariant ∙ ap (λ k. filter (is_live c.args.nodes.now.there.items) (range_with_len 0 k)) all
