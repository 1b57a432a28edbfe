-- One more value of the members of a family, and squares that settle a condition.
use Rattle.std.proofs.Common.{◌≡◌, ℕ, zero, suc, ◌+◌, ◌<◌, Bool, true, false, not, ◌||◌, List, [], ◌∷◌, ◌++◌, map, take, drop, length, get_or, refl, sym, ap, ◌∙◌, Some, None, add-one, cond}
use Rattle.std.specs.Prelude.{slice_get, if◌then◌else◌, option_to_list, option_map, Option}
use Rattle.std.specs.List.{filter, list_any, range_with_len}
use Rattle.std.proofs.lemmas.List.{append-nil, drop_more}
use Rattle.cq_geometry.specs.Squares.{squares}
use Rattle.cq_position.specs.Search.{SearchedTree}
use Rattle.cq_symmetry.specs.Families.{members}
use Rattle.cq_symmetry.specs.Images.{is_in}
use Rattle.cq_symmetry.specs.Mappings.{PlainMapping}
use Rattle.cq_symmetry.specs.declared.families.Family.{Family}
use Rattle.cql_syntax.specs.Contexts.{Context}
use Rattle.cql_syntax.specs.Kinds.{filter_kind}
use Rattle.cql_syntax.specs.Meaning.{Names, value, fits}
use Rattle.cql_syntax.specs.Trees.{FilterTree, filter_at, transform}
use Rattle.cql_syntax.specs.Values.{Value, as_truth, square_of, has, any_of}
use Rattle.cql_values.proofs.Ranges.{any_last, some_square}
use Rattle.cql_values.specs.FilterValues.{settles}
use Rattle.cql_plain.specs.Internal.Members.{value_in_member, values_in_members}
use Rattle.cql_values.specs.ValueModel.{as_value}
use Rattle.cql_values.specs.declared.value.Value.{Value as Kept}
use Rattle.cql_values.proofs.Evaluated.{map_snoc, by_settling}

take_get_suc : {A : Type 0} (xs : List A) (k : ℕ) (x : A) → Some x ≡ slice_get xs k → take (suc k) xs ≡ take k xs ++ x ∷ []
take_get_suc [] k x e = cc
take_get_suc (y ∷ xs) zero x e = cc
take_get_suc (y ∷ xs) (suc k) x e = ap (λ ys. y ∷ ys) (take_get_suc xs k x e)

take_get : {A : Type 0} (xs : List A) (k : ℕ) (x : A) → Some x ≡ slice_get xs k → take (k + 1) xs ≡ take k xs ++ x ∷ []
take_get xs k x e = rw (add-one) (take_get_suc xs k x e)

kept_one : {A B : Type 0} (f : A → B) (x : A) (b : Bool) → map f (cond b (x ∷ []) []) ≡ option_to_list (if b then Some (f x) else None)
kept_one f x true = refl
kept_one f x false = refl

kept_after : {A B : Type 0} (f : A → B) (y : A) (xs ys : List A) (zs : List B) (b : Bool) → map f ys ≡ map f xs ++ zs → map f (cond b (y ∷ ys) ys) ≡ map f (cond b (y ∷ xs) xs) ++ zs
kept_after f y xs ys zs true e = ap (λ l. f y ∷ l) e
kept_after f y xs ys zs false e = e

kept_snoc : {A B : Type 0} (test : A → Bool) (f : A → B) (xs : List A) (x : A) → map f (filter test (xs ++ x ∷ [])) ≡ map f (filter test xs) ++ option_to_list (if test x then Some (f x) else None)
kept_snoc test f [] x = kept_one f x (test x)
kept_snoc test f (y ∷ xs) x = kept_after f y (filter test xs) (filter test (xs ++ x ∷ [])) (option_to_list (if test x then Some (f x) else None)) (test y) (kept_snoc test f xs x)

pub map_more : (xs : List Kept) (o : Option Kept) → map as_value (xs ++ option_to_list o) ≡ map as_value xs ++ option_to_list (option_map as_value o)
map_more xs None = ap (map as_value) (append-nil xs) ∙ sym (append-nil (map as_value xs))
map_more xs (Some v) = map_snoc as_value xs v

-- one more member, with which the part fits or not
pub members_more : (tree : SearchedTree) (g : Context) (e : Names) (n : ℕ) (ms : List PlainMapping) (k : ℕ) (h : PlainMapping) (f : FilterTree) → Some h ≡ slice_get ms k
    → values_in_members tree g e (take k ms) f n ++ option_to_list (value_in_member tree g e h f n) ≡ values_in_members tree g e (take (k + 1) ms) f n
members_more tree g e n ms k h f is =
    sym (ap (λ xs. values_in_members tree g e xs f n) (take_get ms k h is) ∙ ap (λ l. map (λ x. value tree x e f n) (filter (λ x. fits x f) l)) (map_snoc (λ m. m ∷ g) (take k ms) h)
    ∙ kept_snoc (λ x. fits x f) (λ x. value tree x e f n) (map (λ m. m ∷ g) (take k ms)) (h ∷ g))

-- one square settles the condition, and none before it does
pub settled : (every : Bool) (x : Value) (asked : ℕ → Bool) (set s : ℕ) → has x ≡ is_in set → s < 64 → settles every (is_in set) asked s ≡ true → as_truth (not every) ≡ square_of every x asked
settled every x asked set s is low e =
    sym (by_settling every x asked true (sym (ap (λ h. list_any (settles every h asked) squares) is ∙ some_square (settles every (is_in set) asked) s low e)))

pub never_settled : (every : Bool) (x : Value) (asked : ℕ → Bool) (set n : ℕ) → has x ≡ is_in set → n ≡ 64
    → list_any (settles every (is_in set) asked) (range_with_len 0 n) ≡ false → as_truth every ≡ square_of every x asked
unfolding squares
never_settled every x asked set n is end e =
    sym (by_settling every x asked false (sym (ap (λ h. list_any (settles every h asked) (range_with_len 0 64)) is
    ∙ ap (λ k. list_any (settles every (is_in set) asked) (range_with_len 0 k)) (sym end) ∙ e)))

pub none_more : (test : ℕ → Bool) (n : ℕ) → test n ≡ false → list_any test (range_with_len 0 n) ≡ false → list_any test (range_with_len 0 (n + 1)) ≡ false
none_more test n fails had = any_last test n ∙ ap (λ t. t || test n) had ∙ fails

-- a family's filter
pub family_is : (tree : SearchedTree) (g : Context) (e : Names) (family : Family) (part whole : FilterTree) (at n : ℕ) → whole ≡ filter_at at (transform family part)
    → any_of (filter_kind part) (values_in_members tree g e (members family) part n) ≡ value tree g e whole n
unfolding value
family_is tree g e family part whole at n is = sym (ap (λ w. value tree g e w n) is)

-- a search over nodes, one after the other, for one that passes
module _ (p : ℕ → Bool) (xs : List ℕ) (k d : ℕ) where
  pub any_found : k < length xs → p (get_or xs k d) ≡ true → list_any p (drop k xs) ≡ list_any p xs → true ≡ list_any p xs
  any_found low here e = sym (ap (λ b. b || list_any p (drop (k + 1) xs)) here) ∙ sym (ap (list_any p) (drop_more xs k d low)) ∙ e

  pub any_passed : k < length xs → p (get_or xs k d) ≡ false → list_any p (drop k xs) ≡ list_any p xs → list_any p (drop (k + 1) xs) ≡ list_any p xs
  any_passed low here e = sym (ap (λ b. b || list_any p (drop (k + 1) xs)) here) ∙ sym (ap (list_any p) (drop_more xs k d low)) ∙ e
