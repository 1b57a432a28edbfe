use Rattle.std.proofs.Common.{subst, sym}
use Rattle.std.proofs.lemmas.List.Elements.{All-push}
use Rattle.cql_columns.specs.Scopes.{tree_in}
use Rattle.cql_candidates.specs.Occupancy.{AreOccupancies, IsOccupancy}
use Rattle.cql_candidates.proofs.ever_standing.add_men.Goals as goal

pub returns : goal.returns
returns c =
    let ever = IsOccupancy (tree_in c.args.scope.now) c.args.live.now in
    subst (AreOccupancies (tree_in c.args.scope.now) c.args.live.now) (sym c.in_ok-push.ensures.items)
    (All-push ever c.args.occupancies.now.items c.in_ok-ever.ever c.requires.occupancies c.in_ok-ever.ensures)
