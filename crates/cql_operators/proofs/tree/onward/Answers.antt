use Rattle.std.proofs.Common.{subst, sym}
use Rattle.std.proofs.lemmas.Result.{IfOk-weaker}
use Rattle.cql_columns.specs.Scopes.{tree_in}
use Rattle.cql_operators.specs.SpelledParts.{AreOnward}
use Rattle.cql_operators.proofs.SpelledAlike.{children_onward, parents_onward}
use Rattle.cql_operators.proofs.tree.onward.Goals as goal

pub returns-then-back : goal.returns-then-back
returns-then-back c = IfOk-weaker c.parents.result _ _ (λ next is.
    subst (λ back. AreOnward (tree_in c.args.scope.now) back c.args.live.now next.items) (sym c.if-back.true)
    (parents_onward (tree_in c.args.scope.now) c.args.live.now next.items is)) c.parents.ensures

pub returns-else-back : goal.returns-else-back
returns-else-back c = IfOk-weaker c.children.result _ _ (λ next is.
    subst (λ back. AreOnward (tree_in c.args.scope.now) back c.args.live.now next.items) (sym c.if-back.false)
    (children_onward (tree_in c.args.scope.now) c.requires.tree c.args.live.now next.items is)) c.children.ensures
