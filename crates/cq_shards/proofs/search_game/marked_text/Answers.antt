use Rattle.std.proofs.Common.{◌≡◌, subst, ◌∙◌}
use Rattle.std.specs.Prelude.{IfOk}
use Rattle.pgn_export.specs.Export.{export_text}
use Rattle.cql_syntax.specs.TreeOf.{query_tree}
use Rattle.cq_shards.proofs.Braces.{marked_by_hits, marks_unbraced}
use Rattle.cq_shards.proofs.Found.{hits_inside, hits_rise}
use Rattle.cq_shards.proofs.search_game.marked_text.Goals as goal

pub mark-requires-clause-brace : goal.mark-requires-clause-brace
mark-requires-clause-brace c = marks_unbraced (query_tree c.args.query.now.query) c.args.query.now.accepted

pub mark-requires-clause-increasing : goal.mark-requires-clause-increasing
mark-requires-clause-increasing c = hits_rise (query_tree c.args.query.now.query) c.args.game.now c.args.nodes.now c.requires

pub mark-requires-clause-inside : goal.mark-requires-clause-inside
mark-requires-clause-inside c = hits_inside (query_tree c.args.query.now.query) c.args.game.now c.args.nodes.now c.requires

pub returns : goal.returns
returns c =
    let query = query_tree c.args.query.now.query in
    subst (λ g. IfOk c.export.result (λ text. text ≡ export_text g)) (c.in_ok-marked.ensures ∙ marked_by_hits query c.args.game.now c.args.nodes.now c.requires) c.export.ensures.text
