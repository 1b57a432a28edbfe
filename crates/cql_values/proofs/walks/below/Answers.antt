use Rattle.std.proofs.Common.{◌≡◌, ◌&&◌, length, ap, ◌∙◌, arith, subst}
use Rattle.std.specs.Prelude.{filter}
use Rattle.std.specs.List.{range_with_len}
use Rattle.cq_position.specs.Games as games
use Rattle.cql_values.proofs.Ways.{below_more}
use Rattle.cql_values.proofs.walks.below.Goals as goal

pub loop-k-preserved : goal.loop-k-preserved
loop-k-preserved c =
    let more = below_more c.args.game.now.nodes c.args.variations c.args.n c.loop-k.k c.loop-k.are_below.items c.push.new.self.items c.loop-k.nodes.items c.push_if.new.nodes.items
    c.is_below_by-below.result c.both-there.result c.is_below_by-below.ensures (c.both-there.ensures ∙ ap (λ s. s && c.is_below_by-below.result) c.is_searched.ensures)
    c.loop-k.invariant.flags c.loop-k.invariant.nodes c.in_ok-push.ensures.items c.in_ok-push_if.ensures in
    record { flags = more.0; nodes = more.1 }

pub returns : goal.returns
unfolding games.searched
returns c =
    let all : c.loop-k.k ≡ length c.args.game.now.nodes = omega (arith, c.loop-k-test.false, c.loop-k.auto.k-end, c.len-k-end.ensures.len) in
    subst (λ m. c.loop-k.nodes.items ≡ filter (games.is_below c.args.game.now.nodes c.args.n)
    (filter (games.is_searched c.args.variations c.args.game.now.nodes) (range_with_len 0 m))) all c.loop-k.invariant.nodes
