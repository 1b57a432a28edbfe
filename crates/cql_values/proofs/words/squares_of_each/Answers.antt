use Rattle.std.proofs.Common.{◌<◌, refl, arith}
use Rattle.cql_values.proofs.MenFound.{lowest_is, fewer, found_none, found_more, found_all}
use Rattle.cql_values.proofs.words.squares_of_each.Goals as goal

pub man_numbered-requires : goal.man_numbered-requires
man_numbered-requires c = (lowest_is c.loop-left.left _ (omega arith) c.loop-left.invariant.known refl).low

pub loop-left-init : goal.loop-left-init
loop-left-init c = found_none c.args.men.now c.args.wanted c.requires

pub loop-left-smaller : goal.loop-left-smaller
loop-left-smaller c = fewer c.loop-left.left _ (omega arith) c.loop-left.invariant.known refl

pub loop-left-preserved : goal.loop-left-preserved
loop-left-preserved c =
    found_more c.args.men.now c.args.wanted c.loop-left.left c.loop-left.mask c.squares_of-mask.result _ c.man_numbered.result (omega arith) refl c.man_numbered.ensures
    c.squares_of-mask.ensures c.loop-left.invariant

pub returns : goal.returns
returns c = found_all c.args.men.now c.args.wanted c.loop-left.left c.loop-left.mask c.loop-left-test.false c.loop-left.invariant
