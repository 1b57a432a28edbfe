use Rattle.std.proofs.Common.{[], ◌∷◌, ◌++◌, sym, ap₂, ◌∙◌}
use Rattle.std.proofs.lemmas.List.{take_all, take_more}
use Rattle.pgn_tree.proofs.game.copy_nodes.Goals as goal

pub loop-node-preserved : goal.loop-node-preserved
loop-node-preserved c =
    c.in_ok-push.ensures.items
    ∙ ap₂ (λ nodes node. nodes ++ node ∷ []) c.loop-node.invariant (c.in_ok-copy.ensures ∙ c.node-item.is)
    ∙ sym (take_more c.args.nodes.now c.loop-node.node-index c.node-item.result c.loop-node-test.true)

pub returns : goal.returns
returns c = c.loop-node.invariant ∙ take_all c.loop-node.node-index c.args.nodes.now c.loop-node-test.false
