use Rattle.std.proofs.Common.{◌<◌, ◌∙◌, arith}
use Rattle.cq_maker.proofs.Games.{archive_first, archive_more, archive_end}
use Rattle.cq_maker.proofs.archive.make_archive.Goals as goal

pub loop-before-init : goal.loop-before-init
loop-before-init c = record {
  few = omega arith;
  is = archive_first c.args.seed c.args.games c.new-archive.result c.new-draws.result c.new-archive.ensures c.new-draws.ensures;
}

pub loop-before-preserved : goal.loop-before-preserved
loop-before-preserved c =
    let less : c.loop-before.before < c.args.games = omega (arith, c.loop-before-test.true) in
    record {
      few = omega (arith, less);
      is = archive_more c.args.seed c.args.games c.loop-before.before c.loop-before.draws c.make_game.new.draws c.loop-before.archive c.push_all.new.self c.as_slice.result.now c.in_ok-game.game less
          c.in_ok-game.ensures.game c.in_ok-game.ensures.state (c.as_slice.ensures ∙ c.in_ok-export.ensures.text) c.in_ok-push_all.ensures.ok c.loop-before.invariant.is;
    }

pub returns : goal.returns
returns c =
    archive_end c.args.seed c.args.games c.loop-before.before c.loop-before.draws c.loop-before.archive (omega (arith, c.loop-before-test.false)) c.loop-before.invariant.is
