-- Two rows of values, compared from the first on.
use Rattle.std.proofs.Common.{◌≡◌, ℕ, ◌+◌, ◌<◌, ◌≤◌, Bool, true, false, ◌&&◌, List, [], ◌∷◌, length, drop, get_or, refl, sym, ap, ap₂, ◌∙◌, add-one, drop-cons, arith, suc}
use Rattle.std.proofs.lemmas.List.{drop_all}
use Rattle.cql_syntax.specs.Leaves.{same_flag, same_mark}
use Rattle.cql_syntax.specs.Same.{same_filter, same_filters, same_terms, same_parts, same_body}
use Rattle.cql_syntax.specs.Unplaced.{with_places, all_with, terms_with, parts_with, body_with}
use Rattle.cql_syntax.specs.TreeOf.{filter_tree, body_tree, filter_trees, term_trees, part_trees}
use Rattle.cql_syntax.specs.declared.tree.Constituent.{Constituent}
use Rattle.cql_syntax.specs.declared.tree.Filter.{Filter}
use Rattle.cql_syntax.specs.declared.tree.Term.{Term}

-- rows are the same where they are as long and their values are
pub record AreRows {A : Type 0} (one : A → A → Bool) (all : List A → List A → Bool) : Type 0 where
  pub none : all [] [] ≡ true
  pub more : (x y : A) (xs ys : List A) → all (x ∷ xs) (y ∷ ys) ≡ (one x y && all xs ys)
  pub shorter : (y : A) (ys : List A) → all [] (y ∷ ys) ≡ false
  pub longer : (x : A) (xs : List A) → all (x ∷ xs) [] ≡ false

pub filter_rows : (placed : Bool) → AreRows (λ (f g : Filter). same_filter (with_places placed (filter_tree f)) (with_places placed (filter_tree g)))
    (λ xs ys. same_filters (all_with placed (filter_trees xs)) (all_with placed (filter_trees ys)))
unfolding same_filter with_places
filter_rows placed = record { none = refl; more = λ x y xs ys. refl; shorter = λ y ys. refl; longer = λ x xs. refl }

pub term_rows : (placed : Bool) → AreRows (λ (a b : Term). same_flag a.minus b.minus
    && same_filter (with_places placed (filter_tree a.filter)) (with_places placed (filter_tree b.filter)))
    (λ xs ys. same_terms (terms_with placed (term_trees xs)) (terms_with placed (term_trees ys)))
unfolding same_filter with_places
term_rows placed = record { none = refl; more = λ x y xs ys. refl; shorter = λ y ys. refl; longer = λ x xs. refl }

pub part_rows : (placed : Bool) → AreRows (λ (a b : Constituent). same_body (body_with placed (body_tree a.body)) (body_with placed (body_tree b.body))
    && same_mark a.mark b.mark)
    (λ xs ys. same_parts (parts_with placed (part_trees xs)) (parts_with placed (part_trees ys)))
unfolding same_filter with_places
part_rows placed = record { none = refl; more = λ x y xs ys. refl; shorter = λ y ys. refl; longer = λ x xs. refl }

not_second : (a b : Bool) → b ≡ false → (a && b) ≡ false
not_second true b e = e
not_second false b e = refl

pub at_place : {A : Type 0} (xs : List A) (k : ℕ) (x : A) → k < length xs → x ≡ get_or xs k x → drop k xs ≡ x ∷ drop (k + 1) xs
at_place xs k x low is = rw add-one (drop-cons xs k x low ∙ ap (λ y. y ∷ drop (suc k) xs) (sym is))

module _ {A : Type 0} (one : A → A → Bool) (all : List A → List A → Bool) (r : AreRows one all) where
  differ : (xs ys : List A) → (length xs ≡ length ys → ⊥) → all xs ys ≡ false
  differ [] [] unlike = absurd (unlike refl)
  differ [] (y ∷ ys) unlike = r.shorter y ys
  differ (x ∷ xs) [] unlike = r.longer x xs
  differ (x ∷ xs) (y ∷ ys) unlike = r.more x y xs ys ∙ not_second (one x y) (all xs ys) (differ xs ys (λ e. unlike (ap suc e)))

  pub differed : (xs ys : List A) (whole : Bool) → all xs ys ≡ whole → (length xs ≡ length ys → ⊥) → false ≡ whole
  differed xs ys whole e unlike = sym (differ xs ys unlike) ∙ e

  turn : (xs ys : List A) (k : ℕ) (x y : A) → k < length xs → length xs ≡ length ys
      → x ≡ get_or xs k x → y ≡ get_or ys k y → all (drop k xs) (drop k ys) ≡ (one x y && all (drop (k + 1) xs) (drop (k + 1) ys))
  turn xs ys k x y low e is at =
      ap₂ all (at_place xs k x low is) (at_place ys k y (omega (arith, low, e)) at) ∙ r.more x y (drop (k + 1) xs) (drop (k + 1) ys)

  pub stopped : (xs ys : List A) (k : ℕ) (x y : A) (whole : Bool) → k < length xs → length xs ≡ length ys
      → x ≡ get_or xs k x → y ≡ get_or ys k y → one x y ≡ false → all (drop k xs) (drop k ys) ≡ whole → false ≡ whole
  stopped xs ys k x y whole low e is at unlike h = sym (turn xs ys k x y low e is at ∙ ap (λ b. b && all (drop (k + 1) xs) (drop (k + 1) ys)) unlike) ∙ h

  pub moved : (xs ys : List A) (k : ℕ) (x y : A) (whole : Bool) → k < length xs → length xs ≡ length ys
      → x ≡ get_or xs k x → y ≡ get_or ys k y → one x y ≡ true → all (drop k xs) (drop k ys) ≡ whole → all (drop (k + 1) xs) (drop (k + 1) ys) ≡ whole
  moved xs ys k x y whole low e is at alike h = sym (turn xs ys k x y low e is at ∙ ap (λ b. b && all (drop (k + 1) xs) (drop (k + 1) ys)) alike) ∙ h

  pub ended : (xs ys : List A) (k : ℕ) (whole : Bool) → length xs ≤ k → length xs ≡ length ys → all (drop k xs) (drop k ys) ≡ whole → true ≡ whole
  ended xs ys k whole end e h = sym (ap₂ all (drop_all k xs end) (drop_all k ys (omega (arith, end, e))) ∙ r.none) ∙ h
