-- The models of the code's values, for the contracts of private functions.
use Rattle.std.specs.Prelude.{ℕ, ◌+◌, min, List, [], ◌∷◌}
use Rattle.cql_syntax.specs.Limits.{most_squares}
use Rattle.cql_syntax.specs.Occurrences.{TypingContext, Occurrence}
use Rattle.cql_syntax.specs.TreeOf.{form_tree}
use Rattle.cql_syntax.specs.declared.tree.Filter.{Filter}
use Rattle.cql_kinds.specs.declared.bound_names.BoundNames.{BoundNames, Unbound, Bound'}
use Rattle.cql_kinds.specs.declared.typing_context.TypingContext.{TypingContext as Found}

abbrev pub names_in : BoundNames → List (List ℕ)
names_in Unbound = []
names_in (Bound' name p outer) = name.now ∷ names_in outer

abbrev pub typing_context_of : Found → TypingContext
typing_context_of s = record { wanted = s.wanted; names = names_in s.names.now; squares = s.squares; item = s.item }

abbrev pub occurrence : Found → Filter → Occurrence
occurrence s f = record { standing = typing_context_of s; at = f.at; form = form_tree f.form }

-- the same context with other names bound
abbrev pub with_names : TypingContext → List (List ℕ) → TypingContext
with_names s names = record { wanted = s.wanted; names = names; squares = s.squares; item = s.item }

-- the same with its `square` counted to one more than may be nested
abbrev pub counted : TypingContext → TypingContext
counted s = record { wanted = s.wanted; names = s.names; squares = min s.squares (most_squares + 1); item = s.item }
