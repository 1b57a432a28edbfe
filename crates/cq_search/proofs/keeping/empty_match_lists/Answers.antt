use Rattle.std.proofs.Common.{Global, Vec, map, ap, ◌∙◌}
use Rattle.cq_shards.specs.declared.answers.GameAnswer.{GameAnswer}
use Rattle.cq_search.proofs.ManyEnds.{none_more}
use Rattle.cq_search.proofs.keeping.empty_match_lists.Goals as goal

pub loop-query-preserved : goal.loop-query-preserved
loop-query-preserved c =
    ap (map (λ (row : Vec GameAnswer Global). row.items)) c.in_ok-push.ensures.items
    ∙ none_more (λ (row : Vec GameAnswer Global). row.items) c.loop-query.kept.items c.loop-query._query c.new.result c.loop-query.invariant c.new.ensures.items
