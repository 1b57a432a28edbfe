use Rattle.std.proofs.Common.{ap, sym, ◌∙◌}
use Rattle.cq_shards.specs.declared.answers.GameAnswer.{GameAnswer}
use Rattle.cq_search.proofs.Counting.{faulty, found, missed}
use Rattle.cq_search.proofs.selfrun.count_answer.Goals as goal

pub returns-in-Miss-clause-counts : goal.returns-in-Miss-clause-counts
returns-in-Miss-clause-counts c = λ query r n is.
    c.one_more.ensures ∙ missed query r c.args.before (sym c.in-Miss.is ∙ ap (λ (a : GameAnswer). a.what) is)

pub returns-in-Refused-clause-counts : goal.returns-in-Refused-clause-counts
returns-in-Refused-clause-counts c = λ query r n is.
    c.one_more-in-Refused.ensures ∙ faulty query r c.args.before _ (sym c.in-Refused.is ∙ ap (λ (a : GameAnswer). a.what) is)

pub returns-in-Match-clause-counts : goal.returns-in-Match-clause-counts
returns-in-Match-clause-counts c = λ query r n is.
    c.one_more-in-Match.ensures ∙ found query r c.args.before c.in-Match.text _ _ (sym c.in-Match.is ∙ ap (λ (a : GameAnswer). a.what) is) c.len.ensures
