use Rattle.std.proofs.Common.{◌∙◌, sym, arith}
use Rattle.cq_position.specs.Men.{man_number}
use Rattle.cql_values.specs.Trees.{searched_tree}
use Rattle.cql_plan.proofs.MenLaw.{node_found, not_yet_none, not_yet_more, nowhere}
use Rattle.cql_plan.proofs.needs.stands.Goals as goal

pub loop-k-init : goal.loop-k-init
loop-k-init c = not_yet_none (searched_tree c.args.look.now.game.now c.args.look.now.variations) (man_number c.args.man)

pub loop-k-preserved : goal.loop-k-preserved
loop-k-preserved c =
    not_yet_more (searched_tree c.args.look.now.game.now c.args.look.now.variations) (man_number c.args.man) c.loop-k.k
    (sym c.stands_at.ensures ∙ c.if-stands_at.false) c.loop-k.invariant

pub returns-then-stands_at : goal.returns-then-stands_at
returns-then-stands_at c =
    node_found (searched_tree c.args.look.now.game.now c.args.look.now.variations) (man_number c.args.man) c.loop-k.k
    (omega (arith, c.loop-k-test.true, c.len-k-end.ensures.len)) (sym c.stands_at.ensures ∙ c.if-stands_at.true)

pub returns : goal.returns
returns c =
    nowhere (searched_tree c.args.look.now.game.now c.args.look.now.variations) (man_number c.args.man) c.loop-k.k
    (omega (arith, c.loop-k-test.false, c.len-k-end.ensures.len)) c.loop-k.invariant
