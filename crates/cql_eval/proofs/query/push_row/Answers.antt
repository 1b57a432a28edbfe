use Rattle.cql_eval.proofs.HitsLaw.{row_added}
use Rattle.cql_eval.proofs.query.push_row.Goals as goal

pub returns : goal.returns
returns c = row_added (λ row. row.items) c.args.keys.now.items c.push.new.self.items c.in_ok-row.row _ c.in_ok-push.ensures.items c.in_ok-row.ensures
