use Rattle.std.proofs.Common.{◌∷◌, arith}
use Rattle.cql_local.specs.NodeScopes.{tree_of}
use Rattle.cql_local.proofs.Cutting.{standing_fixed}
use Rattle.cql_local.proofs.candidates.fixed.Goals as goal

pub returns-in-Squares : goal.returns-in-Squares
returns-in-Squares c =
    let trial = c.args.trial.now in
    record {
      same = λ s. standing_fixed (tree_of trial.place.now) ((trial.name.now, s) ∷ trial.names.now) trial.place.now.node c.args.f.now c.in-Squares.d c.standing_on.result
          c.in-Squares.is (omega arith) (rw c.position.ensures at c.standing_on.ensures);
    }
