-- Squares that are bound to a name one by one, in the form that the private functions use.
use Rattle.std.specs.Prelude.{ℕ, Bool, ◌∷◌}
use Rattle.cql_syntax.specs.Trees.{FilterTree}
use Rattle.cql_syntax.specs.Values.{holds}
use Rattle.cql_columns.specs.Scopes.{value_with}
use Rattle.cql_columns.specs.declared.binding.Binding.{Binding}

-- true if a filter holds at a node with a square bound to the name
abbrev pub holds_with : Binding → FilterTree → ℕ → ℕ → Bool
holds_with b f n s = holds (value_with b.scope.now f ((b.name.now, s) ∷ b.scope.now.names.now) n)
