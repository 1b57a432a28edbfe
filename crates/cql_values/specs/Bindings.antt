-- A name bound anew.
use Rattle.std.specs.Prelude.{ℕ, [], ◌∷◌}
use Rattle.cql_syntax.specs.Meaning.{Names}

-- the innermost name is bound to this square
abbrev pub rebound : Names → ℕ → Names
rebound [] s = []
rebound (b ∷ e) s = (b.0, s) ∷ e
