use Rattle.std.proofs.Common.{◌++◌, ◌∙◌, ap, arith}
use Rattle.pgn_json.specs.Json.{node_text}
use Rattle.pgn_json.proofs.Left.{node_written, nodes_written}
use Rattle.pgn_json.proofs.game.push_each.Goals as goal

pub loop-i-preserved : goal.loop-i-preserved
loop-i-preserved c =
    node_written (node_text c.args.mark.now c.args.game.now.nodes) c.args.game.now.nodes c.loop-i.i _ c.loop-i.line
    c.push_all.new.self c.push_node.new.line (omega (arith, c.loop-i-test.true, c.len-i-end.ensures.len))
    (c.in_ok-push_all.ensures.ok ∙ ap (λ comma. c.loop-i.line ++ comma) c.comma_after.ensures) c.in_ok-push_node.ensures c.loop-i.invariant

pub returns : goal.returns
returns c =
    nodes_written (node_text c.args.mark.now c.args.game.now.nodes) c.args.game.now.nodes c.loop-i.i _ c.loop-i.line
    (omega (arith, c.loop-i-test.false, c.loop-i.auto.i-end, c.len-i-end.ensures.len)) c.loop-i.invariant
