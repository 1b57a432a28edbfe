use Rattle.std.proofs.Common.{ap, sym, ◌∙◌, subst}
use Rattle.std.specs.Prelude.{IfSome}
use Rattle.cql_syntax.specs.TreeOf.{filter_tree}
use Rattle.cql_local.specs.Internal.Candidates.{IsFixed}
use Rattle.cql_local.proofs.Cutting.{all_in}
use Rattle.cql_local.proofs.candidates.fixed_or_all.Goals as goal

pub returns-in-Some : goal.returns-in-Some
returns-in-Some c = λ s t low e.
    let fixed : IsFixed c.args.trial.now (filter_tree c.args.part.now) c.in-Some.set
    = subst (λ o. IfSome o (IsFixed c.args.trial.now (filter_tree c.args.part.now))) c.in-Some.is c.fixed.ensures in
    sym (ap (λ f. f t) (fixed.same s)) ∙ e

pub returns-in-None : goal.returns-in-None
returns-in-None c = λ s t low e. all_in t low
