use Rattle.std.proofs.Common.{◌+◌, sym, subst, take, arith, rules}
use Rattle.cq_shared.specs.Internal.Reading.{IsFoundBy}
use Rattle.cq_shared.proofs.Readings.{found_by}
use Rattle.cq_shared.proofs.AllHitsAndKeys.{AllFound, found_none, found_more, collect_verdicts, all_increase, keys_count}
use Rattle.cq_shared.proofs.collecting.collect_verdicts.Goals as goal

pub loop-q-init : goal.loop-q-init
loop-q-init c = found_none c.args.game.now c.args.owners.now c.new-found.result.items c.new-found.ensures.items

pub collect_one-requires : goal.collect_one-requires
collect_one-requires c =
    subst (IsFoundBy c.args.game.now c.args.parts.now c.index-owners-q.result c.index.result.now) (sym c.as_slice-rows.ensures.value)
    (found_by c.args.game.now c.args.parts.now c.args.owners.now c.args.sorted.now.left.items c.args.sorted.now.rows.items c.loop-q.q c.index-owners-q.result c.index.result.now
    (record { askers_ = c.requires.owners; found = c.requires.found; rows_ = c.requires.rows }) c.loop-q-test.true c.index-owners-q.is (search rules))

pub loop-q-preserved : goal.loop-q-preserved
loop-q-preserved c =
    subst (AllFound c.args.game.now (take (c.loop-q.q + 1) c.args.owners.now)) (sym c.in_ok-push.ensures.items)
    (found_more c.args.game.now c.args.owners.now c.loop-q.q c.index-owners-q.result c.loop-q.found.items c.in_ok-one.one c.loop-q-test.true c.index-owners-q.is
    c.in_ok-one.ensures.nodes c.in_ok-one.ensures.keys c.loop-q.invariant)

pub returns : goal.returns
returns c =
    let all = collect_verdicts c.args.game.now c.args.owners.now c.loop-q.q c.loop-q.found.items (omega (arith, c.loop-q-test.false)) c.loop-q.invariant in
    record {
      nodes = all.nodes;
      increasing = all_increase c.args.game.now c.args.owners.now c.loop-q.found.items all.nodes;
      keys = all.keys;
      count = keys_count c.loop-q.found.items;
    }
