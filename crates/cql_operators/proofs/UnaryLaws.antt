-- Elements of a list that pass a test, and nodes of a set at which a filter holds.
use Rattle.std.proofs.Common.{◌≡◌, ℕ, ◌&&◌, ◌||◌, ◌==◌, Bool, true, false, List, [], ◌∷◌, length, get_or, refl, sym, ap, ◌∙◌, subst, eqb-true}
use Rattle.std.specs.List.{list_any, range_with_len}
use Rattle.std.proofs.lemmas.Bool.{eq-eqb}
use Rattle.cq_position.specs.Games.{is_child_of, is_searched, children, numbers}
use Rattle.cq_position.specs.Search.{SearchedTree, children_in}
use Rattle.cql_syntax.specs.Values.{Value, holds}
use Rattle.cql_values.proofs.Ranges.{left, right, both}
use Rattle.cql_columns.proofs.Filling.{or_right}
use Rattle.cql_columns.specs.Columns.{is_live, is_as_wanted, shown, IsColumn, IsNarrowed}
use Rattle.cql_columns.specs.declared.filter_column.FilterColumn.{FilterColumn}
use Rattle.cql_columns.proofs.FindLaw.{any_filtered}

-- an element passes
pub any_at : (p : ℕ → Bool) (m : ℕ) (xs : List ℕ) → list_any (λ x. x == m) xs ≡ true → p m ≡ true → list_any p xs ≡ true
any_at p m [] e h = cc
any_at p m (x ∷ xs) e h = by (x == m) refl e (λ f. any_at p m xs f h)
  where
    by : (b : Bool) → (x == m) ≡ b → (b || list_any (λ y. y == m) xs) ≡ true → (list_any (λ y. y == m) xs ≡ true → list_any p xs ≡ true) → (p x || list_any p xs) ≡ true
    by true is f rest = ap (λ b. b || list_any p xs) (ap p (eqb-true x m is) ∙ h)
    by false is f rest = or_right (p x) (list_any p xs) (rest f)

pub record PassesIn (p : ℕ → Bool) (xs : List ℕ) : Type 0 where
  pub m : ℕ
  pub on : list_any (λ x. x == m) xs ≡ true
  pub passes : p m ≡ true

pub at_any : (p : ℕ → Bool) (xs : List ℕ) → list_any p xs ≡ true → PassesIn p xs
at_any p [] e = cc
at_any p (x ∷ xs) e = by (p x) refl e (λ f. at_any p xs f)
  where
    by : (b : Bool) → p x ≡ b → (b || list_any p xs) ≡ true → (list_any p xs ≡ true → PassesIn p xs) → PassesIn p (x ∷ xs)
    by true is f rest = record { m = x; on = ap (λ b. b || list_any (λ y. y == x) xs) (eq-eqb x x refl); passes = is }
    by false is f rest = let found = rest f in record { m = found.m; on = or_right (x == found.m) (list_any (λ y. y == found.m) xs) found.on; passes = found.passes }

-- a node of the set is a live one at which the filter holds
module _ (wide asked again start : List Bool) (c : FilterColumn) (v : ℕ → Value) (is : asked ≡ wide) (is_too : again ≡ wide)
    (column_asked : IsColumn c asked v) (narrowed_again : IsNarrowed again c true start) where
  column : IsColumn c wide v
  column = subst (λ w. IsColumn c w v) is column_asked

  narrowed : IsNarrowed wide c true start
  narrowed = subst (λ w. IsNarrowed w c true start) is_too narrowed_again

  pub start_wide : (m : ℕ) → get_or start m false ≡ true → is_live wide m ≡ true
  start_wide m e = left (is_live wide m) (is_as_wanted true (holds (shown c m))) (sym (narrowed.each m) ∙ e)

  pub start_holds : (m : ℕ) → get_or start m false ≡ true → holds (v m) ≡ true
  start_holds m e = sym (ap holds (column m (start_wide m e))) ∙ right (is_live wide m) (is_as_wanted true (holds (shown c m))) (sym (narrowed.each m) ∙ e)

  pub starts : (m : ℕ) → is_live wide m ≡ true → holds (v m) ≡ true → get_or start m false ≡ true
  starts m l h = narrowed.each m ∙ both (is_live wide m) (is_as_wanted true (holds (shown c m))) l (ap holds (column m l) ∙ h)

-- all searched children of n
pub any_child : (tree : SearchedTree) (h : ℕ → Bool) (n : ℕ)
    → list_any h (children_in tree n) ≡ list_any (λ k. is_child_of tree.game.nodes n k && (is_searched tree.variations tree.game.nodes k && h k)) (range_with_len 0 (length tree.game.nodes))
unfolding children
any_child tree h n = any_filtered h (is_searched tree.variations tree.game.nodes) (children tree.game.nodes n)
    ∙ any_filtered (λ k. is_searched tree.variations tree.game.nodes k && h k) (is_child_of tree.game.nodes n) (numbers tree.game.nodes)
