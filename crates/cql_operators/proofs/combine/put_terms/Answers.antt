use Rattle.std.proofs.Common.{◌∷◌, [], ◌++◌, ◌∙◌, ap}
use Rattle.cql_operators.proofs.Gathering.{terms_kept_more}
use Rattle.cql_operators.proofs.combine.put_terms.Goals as goal

pub loop-term-preserved : goal.loop-term-preserved
loop-term-preserved c =
    terms_kept_more c.args.terms.now c.args.n c.loop-term.term-index c.term-item.result c.loop-term.row.items c.push.new.self.items
    c.loop-term-test.true c.term-item.is c.loop-term.invariant
    (c.in_ok-push.ensures.items ∙ ap (λ v. c.loop-term.row.items ++ (c.term-item.result.0, v) ∷ []) c.at.ensures)
