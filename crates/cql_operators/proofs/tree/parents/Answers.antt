use Rattle.std.proofs.Common.{length, ◌∙◌, ap, refl, false}
use Rattle.std.proofs.lemmas.List.{length-replicate}
use Rattle.cql_columns.specs.Scopes.{tree_in}
use Rattle.cql_operators.proofs.Parents.{parents_asked}
use Rattle.cql_operators.proofs.tree.parents.Goals as goal

pub returns : goal.returns
returns c = parents_asked (tree_in c.args.scope.now) c.requires.tree c.args.live.now c.requires.asked
    c.in_ok-start.start.items _ c.with_parents.result.items (length c.args.scope.now.game.now.nodes) refl c.in_ok-start.ensures
    (ap length c.in_ok-start.ensures ∙ length-replicate (length c.args.scope.now.game.now.nodes) false) c.with_parents.ensures
