use Rattle.std.proofs.Common.{All, subst, arith}
use Rattle.std.proofs.lemmas.List.{take_all}
use Rattle.std.proofs.lemmas.List.Elements.{All-more}
use Rattle.cq_position.specs.Games.{Node, no_node}
use Rattle.pgn_json.specs.GameConditions.{AreBytes}
use Rattle.pgn_json.proofs.laws.texts_are_bytes.Goals as goal

abbrev IsBytesNode : Node → Type 0
IsBytesNode n = All AreBytes n.comments

pub loop-k-preserved : goal.loop-k-preserved
loop-k-preserved c =
    All-more IsBytesNode c.args.game.now.nodes c.loop-k.k no_node (omega (arith, c.loop-k-test.true, c.len-k-end.ensures.len)) c.loop-k.invariant
    c.comments_are_bytes.ensures.bytes

pub returns-clause-texts : goal.returns-clause-texts
returns-clause-texts c = record {
  tags = subst (All (λ t. AreBytes t.0 × AreBytes t.1)) c.tags.ensures c.tags_are_bytes.ensures.bytes;
  comments =
      subst (All IsBytesNode)
      (take_all c.loop-k.k c.args.game.now.nodes (omega (arith, c.loop-k-test.false, c.loop-k.auto.k-end, c.len-k-end.ensures.len)))
      c.loop-k.invariant;
}
