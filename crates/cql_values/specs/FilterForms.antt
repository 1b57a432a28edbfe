-- The forms of filters: those that are a name, and those that give no square but that of a name.
use Rattle.std.specs.Prelude.{◌≡◌, ℕ, ◌==◌, [], ◌∷◌, true, List}
use Rattle.cq_position.specs.Search.{SearchedTree}
use Rattle.cql_syntax.specs.Meaning.{Names, is_bound_to, value}
use Rattle.cql_syntax.specs.Trees.{FilterTree, WrittenTree, written}
use Rattle.cql_syntax.specs.Values.{Value, holds, has, squares_where}

-- the filter gives the square that is bound to the name
pub record IsName (name : List ℕ) (f : FilterTree) : Type 0 where
  pub each : (tree : SearchedTree) (e : Names) (s n : ℕ) → value tree [] ((name, s) ∷ e) f n ≡ squares_where (λ t. s == t)

-- the part of a move is written, and gives the square that is bound to the name
pub record IsNamePart (name : List ℕ) (w : WrittenTree) : Type 0 where
  pub part : FilterTree
  pub is : w ≡ written part
  pub own : IsName name part

-- the name is bound to this square
abbrev pub Binds : Names → List ℕ → ℕ → Type 0
Binds e name s = (t : ℕ) → is_bound_to e name t ≡ (s == t)

-- with a square bound to a name these values have no other square, and hold only if they have it
pub record GivesOnlyName (name : List ℕ) (v : SearchedTree → Names → ℕ → Value) : Type 0 where
  pub only : (tree : SearchedTree) (e : Names) (n s t : ℕ) → Binds e name s → has (v tree e n) t ≡ true → s ≡ t
  pub some : (tree : SearchedTree) (e : Names) (n s : ℕ)
      → Binds e name s → holds (v tree e n) ≡ true → has (v tree e n) s ≡ true

-- the part of a move is written; with a square bound to a name it has no other square, and holds only if it has that one
pub record PartGivesOnlyName (name : List ℕ) (w : WrittenTree) : Type 0 where
  pub part : FilterTree
  pub is : w ≡ written part
  pub own : GivesOnlyName name (λ tree e n. value tree [] e part n)
