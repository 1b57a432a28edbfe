use Rattle.std.proofs.Common.{ap, sym, ◌∙◌, subst}
use Rattle.cql_syntax.specs.TreeOf.{filter_tree, written_tree}
use Rattle.cql_syntax.specs.Trees.{written}
use Rattle.cql_local.specs.Internal.MovesSought.{MayMeet}
use Rattle.cql_local.proofs.Seeking.{bound_meets, any_meets}
use Rattle.cql_local.proofs.moves_sought.squares_met.Goals as goal

pub returns-in-Some : goal.returns-in-Some
returns-in-Some c =
    let tree = filter_tree c.deref.result.now in
    let is = ap written_tree c.in-Some.is ∙ sym (ap (λ p. written (filter_tree p)) c.deref.ensures) in
    subst (λ w. MayMeet c.args.names.now w c.bound.result) (sym is) (bound_meets c.args.names.now tree c.bound.result c.bound.ensures)

pub returns-in-None : goal.returns-in-None
returns-in-None c = any_meets c.args.names.now (written_tree c.args.part.now)
