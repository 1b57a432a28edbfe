use Rattle.std.proofs.Common.{map, Some, ◌==◌, not, length, ap, sym, ◌∙◌}
use Rattle.cql_syntax.specs.TreeOf.{query_tree}
use Rattle.cq_shards.proofs.Found.{matched_answer, missed_answer, some_in}
use Rattle.cq_shards.proofs.search_game.build_answer.Goals as goal

pub returns-then-is_empty : goal.returns-then-is_empty
returns-then-is_empty c =
    missed_answer (query_tree c.args.query.now.query) c.args.index c.args.game.now
    (ap (λ ns. not (length ns == 0)) (sym c.requires.nodes) ∙ ap not (sym c.is_empty.ensures ∙ c.if-is_empty.true))

pub returns : goal.returns
returns c =
    let query = query_tree c.args.query.now.query in
    let some = sym c.is_empty.ensures ∙ c.if-is_empty.false in
    matched_answer query c.args.index c.args.game.now c.in_ok-text.text c.in_ok-keys.keys (ap (λ ns. not (length ns == 0)) (sym c.requires.nodes) ∙ ap not some)
    c.in_ok-text.ensures (ap (map Some) c.in_ok-keys.ensures ∙ c.requires.keys (some_in c.args.nodes.now some))
