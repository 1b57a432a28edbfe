use Rattle.std.proofs.Common.{◌∙◌, sym, refl, arith}
use Rattle.cql_values.specs.Trees.{searched_tree}
use Rattle.cql_plan.proofs.MenLaw.{man_found, no_man_more, no_man_all}
use Rattle.cql_plan.proofs.needs.some_stands.Goals as goal

pub loop-man-init : goal.loop-man-init
loop-man-init c = refl

pub loop-man-preserved : goal.loop-man-preserved
loop-man-preserved c =
    no_man_more (searched_tree c.args.look.now.game.now c.args.look.now.variations) c.args.men c.loop-man.man-index _ c.loop-man-test.true
    (sym c.needed_stands.ensures ∙ c.if-needed_stands.false) c.loop-man.invariant

pub returns-then-needed_stands : goal.returns-then-needed_stands
returns-then-needed_stands c =
    man_found (searched_tree c.args.look.now.game.now c.args.look.now.variations) c.args.men c.loop-man.man-index _ c.loop-man-test.true
    (sym c.needed_stands.ensures ∙ c.if-needed_stands.true)

pub returns : goal.returns
returns c =
    no_man_all (searched_tree c.args.look.now.game.now c.args.look.now.variations) c.args.men c.loop-man.man-index
    (omega (arith, c.loop-man-test.false, c.loop-man.auto.man-index-end)) c.loop-man.invariant
