use Rattle.cql_eval.proofs.query.hit_columns_at.Goals as goal

pub returns-clause-nodes : goal.returns-clause-nodes
returns-clause-nodes g c = c.in_ok-column.ensures.left.asked.count
