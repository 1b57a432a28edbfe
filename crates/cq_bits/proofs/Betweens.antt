-- The squares between two squares as a set.
use Rattle.std.proofs.Common.{◌≡◌, ℕ, ◌+◌, ◌<◌, ◌⊎◌, inl, inr, ◌↔◌, Bool, true, false, true≢false, ◌&&◌, ◌||◌, ◌==◌, eqb-true, eq-eqb, List, [], ◌∷◌, length, take, get_or, refl, sym, ap, ◌∙◌}
use Rattle.std.specs.Prelude.{filter, reverse, nat_lt, if◌then◌else◌}
use Rattle.std.proofs.lemmas.List.Folds.{list_any_more}
use Rattle.cq_geometry.specs.Squares.{squares}
use Rattle.cq_geometry.specs.Lines.{between_squares, lies_between}
use Rattle.cq_geometry.proofs.Tables.{at_square}
use Rattle.cq_position.specs.Bitboards.{contains}
use Rattle.cq_bits.specs.Sets.{Has, IsSetOf}
use Rattle.cq_square_sets.proofs.Bits.{nothing_there}

no : {A : Type 0} → false ≡ true → A
no e = absurd (true≢false (sym e))

-- no square yet, and one square more
pub none_marked : (xs : List ℕ) → IsSetOf 0 (λ s. contains (take 0 xs) s ≡ true)
none_marked xs s below = ((λ h. absurd (nothing_there s h)), (λ e. no e))

pub one_marked : (set next i x : ℕ) (xs : List ℕ) → i < length xs → x ≡ get_or xs i 0 → ((s : ℕ) → s < 64 → Has next s ↔ (Has set s ⊎ ((s ≡ x) × (true ≡ true))))
    → IsSetOf set (λ s. contains (take i xs) s ≡ true) → IsSetOf next (λ s. contains (take (i + 1) xs) s ≡ true)
one_marked set next i x xs within e step so_far s below = (there, back)
  where
    longer : contains (take (i + 1) xs) s ≡ (contains (take i xs) s || (x == s))
    longer = list_any_more (λ y. y == s) xs i 0 within ∙ ap (λ y. contains (take i xs) s || (y == s)) (sym e)

    either : (a b : Bool) → (a || b) ≡ true → (a ≡ true) ⊎ (b ≡ true)
    either true b e = inl refl
    either false b e = inr e

    first : (a b : Bool) → a ≡ true → (a || b) ≡ true
    first true b e = refl
    first false b e = no e

    second : (a b : Bool) → b ≡ true → (a || b) ≡ true
    second true b e = refl
    second false b e = e

    there : Has next s → contains (take (i + 1) xs) s ≡ true
    there h = by_case ((step s below).0 h)
      where
        by_case : Has set s ⊎ ((s ≡ x) × (true ≡ true)) → contains (take (i + 1) xs) s ≡ true
        by_case (inl old) = longer ∙ first _ (x == s) ((so_far s below).0 old)
        by_case (inr new) = longer ∙ second (contains (take i xs) s) _ (eq-eqb x s (sym new.0))

    back : contains (take (i + 1) xs) s ≡ true → Has next s
    back c = by_case (either (contains (take i xs) s) (x == s) (sym longer ∙ c))
      where
        by_case : (contains (take i xs) s ≡ true) ⊎ ((x == s) ≡ true) → Has next s
        by_case (inl old) = (step s below).1 (inl ((so_far s below).1 old))
        by_case (inr new) = (step s below).1 (inr (sym (eqb-true x s new), refl))

-- the squares of a filtered list
in_filter : (p : ℕ → Bool) (xs : List ℕ) (s : ℕ) → contains (filter p xs) s ≡ (p s && contains xs s)
in_filter p [] s = and_no (p s)
  where
    and_no : (b : Bool) → false ≡ (b && false)
    and_no true = refl
    and_no false = refl
in_filter p (x ∷ xs) s = by_test (p x) (x == s) refl refl (in_filter p xs s)
  where
    by_test : (b c : Bool) → p x ≡ b → (x == s) ≡ c → contains (filter p xs) s ≡ (p s && contains xs s)
        → contains (if b then x ∷ filter p xs else filter p xs) s ≡ (p s && ((x == s) || contains xs s))
    by_test true true e f rest = ap (λ t. t || contains (filter p xs) s) f ∙ sym (ap (λ t. t && ((x == s) || contains xs s)) (ap p (sym (eqb-true x s f)) ∙ e) ∙ ap (λ t. t || contains xs s) f)
    by_test true false e f rest = ap (λ t. t || contains (filter p xs) s) f ∙ (rest ∙ sym (ap (λ t. p s && (t || contains xs s)) f))
    by_test false true e f rest = rest ∙ (none (p s) (ap p (sym (eqb-true x s f)) ∙ e) ∙ sym (none_more (p s) (ap p (sym (eqb-true x s f)) ∙ e)))
      where
        none : (b : Bool) → b ≡ false → (b && contains xs s) ≡ false
        none true e = absurd (true≢false e)
        none false e = refl

        none_more : (b : Bool) → b ≡ false → (b && ((x == s) || contains xs s)) ≡ false
        none_more true e = absurd (true≢false e)
        none_more false e = refl
    by_test false false e f rest = rest ∙ sym (ap (λ t. p s && (t || contains xs s)) f)

on_board : (b : Bool) (s : ℕ) → s < 64 → contains (if b then squares else reverse squares) s ≡ true
unfolding squares
on_board true = at_square (contains squares) (λ s. true) refl
on_board false = at_square (contains (reverse squares)) (λ s. true) refl

pub between_has : (a b s : ℕ) → s < 64 → contains (between_squares a b) s ≡ lies_between a b s
unfolding between_squares
between_has a b s low = in_filter (lies_between a b) (if nat_lt a b then squares else reverse squares) s
    ∙ (ap (λ t. lies_between a b s && t) (on_board (nat_lt a b) s low) ∙ and_true (lies_between a b s))
  where
    and_true : (t : Bool) → (t && true) ≡ t
    and_true true = refl
    and_true false = refl
