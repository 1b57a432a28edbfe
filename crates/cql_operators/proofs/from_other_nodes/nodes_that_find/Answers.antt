use Rattle.std.proofs.Common.{◌≡◌, ℕ, ◌<◌, false, length, get_or, subst, sym}
use Rattle.std.proofs.lemmas.Result.{IfOk-weaker}
use Rattle.cq_position.specs.Games.{node_at}
use Rattle.cql_operators.specs.OtherNodes.{FindSourceNodes}
use Rattle.cql_operators.specs.Trees.{AreWithDescendants, HasParents, flag_of}
use Rattle.cql_operators.proofs.FoundLaw.{raised_found, lowered_found, parents_found, flags_found}
use Rattle.cql_operators.proofs.from_other_nodes.nodes_that_find.Goals as goal

pub returns-in-Find : goal.returns-in-Find
returns-in-Find c =
    subst (λ word. FindSourceNodes c.args.game.now.nodes word c.args.set.items c.with_ancestors.result.items) (sym c.in-Find.is) (raised_found _ _ _ c.with_ancestors.ensures)

pub returns-in-FindUp : goal.returns-in-FindUp
returns-in-FindUp c = IfOk-weaker c.with_descendants.result _ _ (λ found is.
    subst (λ word. FindSourceNodes c.args.game.now.nodes word c.args.set.items found.items) (sym c.in-FindUp.is)
    (lowered_found _ _ _ (subst (λ set. AreWithDescendants c.args.game.now.nodes set found.items) c.deref.ensures.value is))) c.with_descendants.ensures

pub returns-in_ok-start-in-Child : goal.returns-in_ok-start-in-Child
returns-in_ok-start-in-Child c =
    subst (λ word. FindSourceNodes c.args.game.now.nodes word c.args.set.items c.with_parents.result.items) (sym c.in-Child.is)
    (parents_found _ _ _ _ _ c.in_ok-start-in-Child.ensures
    (subst (λ set. HasParents c.args.game.now.nodes set c.in_ok-start-in-Child.start.items c.with_parents.result.items) c.deref-in-Child.ensures.value c.with_parents.ensures))

pub returns-in-Parent : goal.returns-in-Parent
returns-in-Parent c = IfOk-weaker c.of_parents.result _ _ (λ found is.
    subst (λ word. FindSourceNodes c.args.game.now.nodes word c.args.set.items found.items) (sym c.in-Parent.is)
    (flags_found _ _ _ (subst (λ set. (n : ℕ) → n < length c.args.game.now.nodes → get_or found.items n false ≡ flag_of set (node_at c.args.game.now.nodes n).parent)
    c.deref-in-Parent.ensures.value is))) c.of_parents.ensures
