use Rattle.std.proofs.Common.{ap, ◌∙◌, take, get_or, arith}
use Rattle.std.proofs.lemmas.List.{take_all, get_or_default}
use Rattle.cql_syntax.specs.Hits.{marks}
use Rattle.cql_syntax.specs.TreeOf.{query_tree}
use Rattle.cq_annotate.specs.Marking.{game_marked}
use Rattle.cq_annotate.proofs.Nodes.{marked_next, none_marked, as_many}
use Rattle.cq_annotate.proofs.marking.mark.Goals as goal

pub loop-node-init : goal.loop-node-init
loop-node-init c = c.in_ok-marked.ensures ∙ none_marked (marks (query_tree c.args.query.now)) c.args.game.now

pub add_marks-requires-clause-node : goal.add_marks-requires-clause-node
add_marks-requires-clause-node c =
    let texts = marks (query_tree c.args.query.now) in
    let i = c.loop-node.node-index in
    let many = as_many texts (take i c.args.nodes.now) c.args.game.now c.loop-node.marked c.loop-node.invariant in
    let inside = c.requires.inside i 0 c.loop-node-test.true in
    omega (arith, many, inside)

pub loop-node-preserved : goal.loop-node-preserved
loop-node-preserved c =
    let i = c.loop-node.node-index in
    let n = get_or c.args.nodes.now i 0 in
    marked_next (marks (query_tree c.args.query.now)) c.args.nodes.now c.args.game.now c.loop-node.marked c.add_marks.new.game i n c.requires.increasing c.loop-node-test.true
    (get_or_default c.args.nodes.now i 0 n c.loop-node-test.true) (c.requires.inside i 0 c.loop-node-test.true) c.loop-node.invariant c.in_ok-add_marks.ensures

pub returns : goal.returns
returns c =
    c.loop-node.invariant
    ∙ ap (λ l. game_marked (marks (query_tree c.args.query.now)) l c.args.game.now) (take_all c.loop-node.node-index c.args.nodes.now c.loop-node-test.false)
