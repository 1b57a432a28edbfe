-- Squares of two names that are tried together.
use Rattle.std.specs.Prelude.{ℕ, List}
use Rattle.cql_syntax.specs.Meaning.{Names}
use Rattle.cql_syntax.specs.Values.{Value}
use Rattle.cql_columns.specs.Columns.{shown}
use Rattle.cql_candidates.specs.Covers.{AreRetained, MayPair}
use Rattle.cql_candidates.specs.declared.pairs.PairTrial.{PairTrial}

-- some squares are removed from the sets, none of the one name's with which values may hold
abbrev pub LeavesPaired : PairTrial → (Names → ℕ → Value) → List ℕ → List ℕ → Type 0
LeavesPaired p v old new = AreRetained p.live.now (MayPair p.name.now p.other.now (shown p.column.now) v) old new
