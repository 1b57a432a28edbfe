use Rattle.std.proofs.Common.{ap, arith, ◌∙◌}
use Rattle.pgn_tree.proofs.MainLine.{line_more, line_same, line_all}
use Rattle.pgn_tree.proofs.game.Game.main_line.Goals as goal
use Rattle.pgn_tree.proofs.game.Game.main_line.Goals.{then-is_main+in_ok-push, else-is_main}

pub loop-k-preserved : goal.loop-k-preserved
loop-k-preserved c = elim c.if-is_main.branch [
  | then-is_main+in_ok-push w ↦ line_more c.args.self.now.nodes c.loop-k.k c.loop-k.line.items c.if-is_main.line.items c.loop-k.invariant w.if-is_main.ensures
      (ap (λ v. v.items) w.line-is ∙ w.in_ok-push.ensures.items)
  | else-is_main w ↦ line_same c.args.self.now.nodes c.loop-k.k c.loop-k.line.items c.if-is_main.line.items c.loop-k.invariant w.if-is_main.ensures (ap (λ v. v.items) w.line-is)
]

pub returns : goal.returns
returns c = line_all c.args.self.now.nodes c.loop-k.k c.loop-k.line.items c.loop-k.invariant (omega (arith, c.loop-k-test.false, c.loop-k.auto.k-end, c.len-k-end.ensures.len))
