-- The attacks that a man uncovers or takes away as it leaves its square or comes to one.
use Rattle.std.proofs.Common.{◌≡◌, ◌≢◌, ℕ, ◌<◌, Bool, true, false, cond, not, ◌&&◌, ◌||◌, ◌==◌, List, [], ◌∷◌, length, Option, Some, None, refl, inl, inr, sym, ap, ap₂, ◌∙◌}
use Rattle.std.specs.Prelude.{slice_set}
use Rattle.std.specs.List.{list_all, list_any}
use Rattle.std.proofs.lemmas.Bool.{cases_Bool, cases_eq, and_parts, and_from, or_parts, or_from, or_left, or_right, or_cases, eq-eqb, not-true, not_from_false, false_from_ne_true}
use Rattle.std.proofs.lemmas.List.{get_or-set_same, get_or-set_other}
use Rattle.cq_geometry.specs.declared.compass.Compass.{Compass}
use Rattle.cq_geometry.specs.Squares.{squares}
use Rattle.cq_geometry.specs.Steps.{ray_from}
use Rattle.cq_geometry.specs.Internal.Expansions.{king_goals, knight_goals}
use Rattle.cq_geometry.specs.Directions.{files_of, ranks_of}
use Rattle.cq_geometry.specs.Lines.{between_squares, is_open, is_orthogonal, is_diagonal, seen, sees, orthogonals, diagonals}
use Rattle.cq_geometry.proofs.Seen.{sees_orthogonals, sees_diagonals}
use Rattle.cq_position.specs.declared.men.Man.{Man}
use Rattle.cq_position.specs.declared.men.Man.TheVariants.{K, Q, R, B, N, P, BlackK, BlackQ, BlackR, BlackB, BlackN, BlackP, Empty}
use Rattle.cq_position.specs.declared.men.Side.{Side}
use Rattle.cq_position.specs.declared.men.Side.TheVariants.{White, Black}
use Rattle.cq_position.specs.Men.{same_man, is_of_side, king_of, pawn_of}
use Rattle.cq_position.specs.Board.{man_at}
use Rattle.cq_position.specs.Attacks.{is_occupied, attacks_as, attacks, attacker, is_attacked}
use Rattle.cq_position.specs.Bitboards.{contains}
use Rattle.cq_position.specs.AttackTest.{first_man, is_orthogonal_slider, is_diagonal_slider, knight_of, first_is, holds, pawn_origins}
use Rattle.cq_position.proofs.Attackers.{attacked_outward}

false_is_not_true : {A : Type 0} → false ≡ true → A
false_is_not_true e = absurd (cc)

-- ---- a man leaves its square
abbrev without : List Man → ℕ → List Man
without men from = slice_set men from Empty

others_stay : (men : List Man) (from x : ℕ) → x ≢ from → man_at (without men from) x ≡ man_at men x
others_stay men from x other = get_or-set_other men from x Empty Empty other

same_first : (men : List Man) (from : ℕ) (xs : List ℕ) → contains (seen (is_occupied men) xs) from ≡ false
    → first_man (without men from) xs ≡ first_man men xs
same_first men from [] h = refl
same_first men from (x ∷ xs) h =
    let parts = or_parts (x == from) (contains (cond (is_occupied men x) [] (seen (is_occupied men) xs)) from) h in
    let other : x ≢ from = λ e. false_is_not_true (sym parts.0 ∙ eq-eqb x from e) in
    let same = others_stay men from x other in
    elim (cases_Bool (is_occupied men x)) [
      | inl e ↦ rw (same, e) refl
      | inr e ↦
          let rest : contains (seen (is_occupied men) xs) from ≡ false = ap (λ b. contains (cond b [] (seen (is_occupied men) xs)) from) (sym e) ∙ parts.1 in
          rw (same, e) (same_first men from xs rest)
    ]

same_firsts : (kind : Man → Bool) (men : List Man) (from k : ℕ) (directions : List Compass) → sees directions (is_occupied men) k from ≡ false
    → first_is kind (without men from) directions k ≡ first_is kind men directions k
same_firsts kind men from k [] h = refl
same_firsts kind men from k (c ∷ cs) h =
    let ray = ray_from (files_of c) (ranks_of c) k in
    let parts = or_parts (contains (seen (is_occupied men) ray) from) (sees cs (is_occupied men) k from) h in
    ap₂ (λ m b. kind m || b) (same_first men from ray parts.0) (same_firsts kind men from k cs parts.1)

-- a man that stands on some goal now stood there before
record IsMan (man : Man) : Type 0 where
  is : same_man Empty man ≡ false

holds_before : (men : List Man) (from : ℕ) (man : Man) (goal : Option ℕ) → from < length men → IsMan man
    → holds (without men from) man goal ≡ true → holds men man goal ≡ true
holds_before men from man None low is h = h
holds_before men from man (Some x) low is h =
    elim (cases_eq x from) [
      | inl same ↦
          let there : man_at (without men from) x ≡ Empty = ap (man_at (without men from)) same ∙ get_or-set_same men from Empty Empty low in
          false_is_not_true (sym is.is ∙ ap (λ m. same_man m man) (sym there) ∙ h)
      | inr other ↦ ap (λ m. same_man m man) (sym (others_stay men from x other)) ∙ h
    ]

some_before : (men : List Man) (from : ℕ) (man : Man) (goals : List (Option ℕ)) → from < length men → IsMan man
    → list_any (holds (without men from) man) goals ≡ true → list_any (holds men man) goals ≡ true
some_before men from man [] low is h = h
some_before men from man (g ∷ gs) low is h =
    elim (or_cases (holds (without men from) man g) (list_any (holds (without men from) man) gs) h) [
      | inl here ↦ or_left (holds men man g) (list_any (holds men man) gs) (holds_before men from man g low is here)
      | inr later ↦ or_right (holds men man g) (list_any (holds men man) gs) (some_before men from man gs low is later)
    ]

knight_is_man : (s : Side) → IsMan (knight_of s)
knight_is_man White = record { is = refl }
knight_is_man Black = record { is = refl }

pawn_is_man : (s : Side) → IsMan (pawn_of s)
pawn_is_man White = record { is = refl }
pawn_is_man Black = record { is = refl }

king_is_man : (s : Side) → IsMan (king_of s)
king_is_man White = record { is = refl }
king_is_man Black = record { is = refl }

or_both : (a b x y : Bool) → (a ≡ true → x ≡ true) → (b ≡ true → y ≡ true) → (a || b) ≡ true → (x || y) ≡ true
or_both a b x y f g h = elim (or_cases a b h) [ inl e ↦ or_left x y (f e) | inr e ↦ or_right x y (g e) ]

unseen : (s t u : Bool) → ((s || t) && u) ≡ false → ((s && u) ≡ false) × ((t && u) ≡ false)
unseen true true u h = (h, h)
unseen true false u h = (h, refl)
unseen false true u h = (refl, h)
unseen false false u h = (refl, refl)

-- a man that a square doesn't see covers no attack on it
pub uncovers_nothing : (men : List Man) (by : Side) (from k : ℕ) → from < length men → from < 64 → k < 64
    → ((is_orthogonal k from || is_diagonal k from) && is_open (is_occupied men) k from) ≡ false
    → is_attacked men by k ≡ false → is_attacked (slice_set men from Empty) by k ≡ false
uncovers_nothing men by from k low from_board k_board hidden safe =
    let left = without men from in
    let both = unseen (is_orthogonal k from) (is_diagonal k from) (is_open (is_occupied men) k from) hidden in
    let straight = same_firsts (is_orthogonal_slider by) men from k orthogonals (sees_orthogonals (is_occupied men) k from k_board from_board ∙ both.0) in
    let slanted = same_firsts (is_diagonal_slider by) men from k diagonals (sees_diagonals (is_occupied men) k from k_board from_board ∙ both.1) in
    false_from_ne_true (is_attacked left by k) (λ e.
    let after = sym (attacked_outward left by k k_board) ∙ e in
    let before = or_both _ _ (first_is (is_orthogonal_slider by) men orthogonals k) _ (λ h. sym straight ∙ h)
    (or_both _ _ (first_is (is_diagonal_slider by) men diagonals k) _ (λ h. sym slanted ∙ h)
    (or_both _ _ (list_any (holds men (knight_of by)) (knight_goals k)) _ (some_before men from (knight_of by) (knight_goals k) low (knight_is_man by))
    (or_both _ _ (list_any (holds men (pawn_of by)) (pawn_origins by k)) (list_any (holds men (king_of by)) (king_goals k))
    (some_before men from (pawn_of by) (pawn_origins by k) low (pawn_is_man by))
    (some_before men from (king_of by) (king_goals k) low (king_is_man by))))) after in
    false_is_not_true (sym safe ∙ attacked_outward men by k k_board ∙ before))

-- ---- a man comes to a square
all_less : (p q : ℕ → Bool) → ((x : ℕ) → p x ≡ true → q x ≡ true) → (xs : List ℕ) → list_all p xs ≡ true → list_all q xs ≡ true
all_less p q f [] h = refl
all_less p q f (x ∷ xs) h =
    let parts = and_parts (p x) (list_all p xs) h in
    and_from (q x) (list_all q xs) (f x parts.0) (all_less p q f xs parts.1)

record Covers (occupied more : ℕ → Bool) : Type 0 where
  still : (x : ℕ) → occupied x ≡ true → more x ≡ true

open_less : (occupied more : ℕ → Bool) → Covers occupied more → (a b : ℕ) → is_open more a b ≡ true → is_open occupied a b ≡ true
open_less occupied more c a b h =
    all_less (λ q. not (more q)) (λ q. not (occupied q))
    (λ x free. not_from_false (occupied x) (false_from_ne_true (occupied x) (λ e. false_is_not_true (sym (not-true (more x) free) ∙ c.still x e))))
    (between_squares a b) h

line_less : (occupied more : ℕ → Bool) → Covers occupied more → (line : Bool) (a b : ℕ) → (line && is_open more a b) ≡ true → (line && is_open occupied a b) ≡ true
line_less occupied more c line a b h =
    let parts = and_parts line (is_open more a b) h in
    and_from line (is_open occupied a b) parts.0 (open_less occupied more c a b parts.1)

attacks_less : (man : Man) (occupied more : ℕ → Bool) → Covers occupied more → (a b : ℕ) → attacks_as man more a b ≡ true → attacks_as man occupied a b ≡ true
attacks_less K occupied more c a b h = h
attacks_less Q occupied more c a b h = line_less occupied more c (is_orthogonal a b || is_diagonal a b) a b h
attacks_less R occupied more c a b h = line_less occupied more c (is_orthogonal a b) a b h
attacks_less B occupied more c a b h = line_less occupied more c (is_diagonal a b) a b h
attacks_less N occupied more c a b h = h
attacks_less P occupied more c a b h = h
attacks_less BlackK occupied more c a b h = h
attacks_less BlackQ occupied more c a b h = line_less occupied more c (is_orthogonal a b || is_diagonal a b) a b h
attacks_less BlackR occupied more c a b h = line_less occupied more c (is_orthogonal a b) a b h
attacks_less BlackB occupied more c a b h = line_less occupied more c (is_diagonal a b) a b h
attacks_less BlackN occupied more c a b h = h
attacks_less BlackP occupied more c a b h = h
attacks_less Empty occupied more c a b h = h

covers : (men : List Man) (to : ℕ) (lands : Man) → to < length men → same_man lands Empty ≡ false → Covers (is_occupied men) (is_occupied (slice_set men to lands))
covers men to lands low is = record {
  still = λ x e. elim (cases_eq x to) [
    | inl same ↦
        let there = ap (man_at (slice_set men to lands)) same ∙ get_or-set_same men to lands Empty low in
        ap (λ m. not (same_man m Empty)) there ∙ ap not is
    | inr other ↦ ap (λ m. not (same_man m Empty)) (get_or-set_other men to x lands Empty other) ∙ e
  ];
}

attacker_before : (men : List Man) (by : Side) (to : ℕ) (lands : Man) (k a : ℕ) → to < length men → is_of_side by lands ≡ false → same_man lands Empty ≡ false
    → attacker (slice_set men to lands) by k a ≡ true → attacker men by k a ≡ true
unfolding attacks
attacker_before men by to lands k a low own is h =
    let men' = slice_set men to lands in
    let parts = and_parts (is_of_side by (man_at men' a)) (attacks_as (man_at men' a) (is_occupied men') a k) h in
    elim (cases_eq a to) [
      | inl same ↦
          let there : man_at men' a ≡ lands = ap (man_at men') same ∙ get_or-set_same men to lands Empty low in
          false_is_not_true (sym own ∙ ap (is_of_side by) (sym there) ∙ parts.0)
      | inr other ↦
          let there : man_at men' a ≡ man_at men a = get_or-set_other men to a lands Empty other in
          let attack : attacks_as (man_at men a) (is_occupied men') a k ≡ true = ap (λ m. attacks_as m (is_occupied men') a k) (sym there) ∙ parts.1 in
          and_from (is_of_side by (man_at men a)) (attacks_as (man_at men a) (is_occupied men) a k) (ap (is_of_side by) (sym there) ∙ parts.0)
          (attacks_less (man_at men a) (is_occupied men) (is_occupied men') (covers men to lands low is) a k attack)
    ]

any_less : (p q : ℕ → Bool) → ((x : ℕ) → p x ≡ true → q x ≡ true) → (xs : List ℕ) → list_any q xs ≡ false → list_any p xs ≡ false
any_less p q f [] h = refl
any_less p q f (x ∷ xs) h =
    let parts = or_parts (q x) (list_any q xs) h in
    or_from (p x) (list_any p xs) (false_from_ne_true (p x) (λ e. false_is_not_true (sym parts.0 ∙ f x e))) (any_less p q f xs parts.1)

-- a man of the other side that comes to a square opens no attack
pub covers_only : (men : List Man) (by : Side) (to : ℕ) (lands : Man) (k : ℕ) → to < length men → is_of_side by lands ≡ false → same_man lands Empty ≡ false
    → is_attacked men by k ≡ false → is_attacked (slice_set men to lands) by k ≡ false
unfolding is_attacked
covers_only men by to lands k low own is safe =
    any_less (attacker (slice_set men to lands) by k) (attacker men by k)
    (λ a. attacker_before men by to lands k a low own is) squares safe
