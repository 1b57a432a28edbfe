use Rattle.std.proofs.Common.{◌∙◌, ap, ap₂, arith, take}
use Rattle.cq_position.specs.Games.{with_tag}
use Rattle.pgn_tree.proofs.TagCopies.{tag_more}
use Rattle.pgn_tree.proofs.tags.Tags.copy.Goals as goal

pub loop-i-preserved : goal.loop-i-preserved
loop-i-preserved c =
    c.in_ok-add.ensures.ok ∙ ap (λ t. with_tag t c.name.result.now c.value.result.now) c.loop-i.invariant
    ∙ ap₂ (λ n v. with_tag (take c.loop-i.i c.args.self.now) n v) c.name.ensures c.value.ensures
    ∙ tag_more c.args.self.now c.loop-i.i c.len-i-end.ensures.kept (omega (arith, c.loop-i-test.true, c.len-i-end.ensures.len))
