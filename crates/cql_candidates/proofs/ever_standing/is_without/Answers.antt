use Rattle.std.proofs.lemmas.Bool.{eqb-true}
use Rattle.std.specs.Prelude.{bit_and}
use Rattle.cql_candidates.proofs.OccupancyLaw.{without}
use Rattle.cql_candidates.proofs.ever_standing.is_without.Goals as goal

pub returns-then-ever-d : goal.returns-then-ever-d
returns-then-ever-d c = λ told tree live is.
    without tree live c.args.ever.now c.args.d.now c.if-ever-d.true (eqb-true (bit_and c.args.ever.now.squares c.args.d.now.part.squares) 0 told) is
