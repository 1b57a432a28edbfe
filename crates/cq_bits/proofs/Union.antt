-- The squares that rooks, bishops and queens reach, with those that the other men attack, are all attacked squares.
use Rattle.std.proofs.Common.{◌≡◌, ℕ, ◌<◌, ◌^◌, ◌-◌, ◌⊎◌, inl, inr, ⊎_elim, Bool, true, false, not, true≢false, ◌&&◌, ◌||◌, List, [], ◌∷◌, pos, negsuc, ℤ, refl, sym, ap, ◌∙◌, All}
use Rattle.std.specs.Prelude.{bit_or, if◌then◌else◌}
use Rattle.std.proofs.lemmas.List.Elements.{All-head, All-tail}
use Rattle.cq_geometry.specs.Steps.{ray_from}
use Rattle.cq_geometry.specs.Lines.{seen, sees, is_orthogonal, is_diagonal, is_open, orthogonals, diagonals}
use Rattle.cq_geometry.proofs.Rays.{ray_board}
use Rattle.cq_geometry.proofs.Seen.{sees_orthogonals, sees_diagonals}
use Rattle.cq_position.specs.Attacks.{attacks, attacks_as, is_occupied}
use Rattle.cq_position.specs.Bitboards.{contains}
use Rattle.cq_position.specs.Board.{man_at}
use Rattle.cq_position.specs.Men.{same_man}
use Rattle.std.proofs.lemmas.Nat.Bits.{bit_at_ones}
use Rattle.cq_position.specs.declared.men.Man.{Man}
use Rattle.cq_position.specs.declared.men.Man.TheVariants.{K, Q, R, B, N, P, BlackK, BlackQ, BlackR, BlackB, BlackN, BlackP, Empty}
use Rattle.cq_bits.specs.Internal.Kinds.{is_nothing}
use Rattle.cq_bits.specs.Sets.{Has, has, IsSetOf, IsSlid, IsChosen, IsLeap, IsAttacked, goes_straight, goes_diagonally, slides, reaches}
use Rattle.cq_square_sets.proofs.Bits.{in_either, from_first, from_second}
use Rattle.cq_bits.proofs.Members.{has_exactly}

no : {A : Type 0} → false ≡ true → A
no e = absurd (true≢false (sym e))

seen_same : (p q : ℕ → Bool) (xs : List ℕ) → ((s : ℕ) → s < 64 → p s ≡ q s) → All (λ s. s < 64) xs → seen p xs ≡ seen q xs
seen_same p q [] same board = refl
seen_same p q (x ∷ xs) same board =
    ap (λ rest. x ∷ (if p x then [] else rest)) (seen_same p q xs same (All-tail (λ s. s < 64) x xs board)) ∙ ap (λ b. x ∷ (if b then [] else seen q xs)) (same x (All-head (λ s. s < 64) x xs board))

queen_straight : (s t u : Bool) → (s && u) ≡ true → ((s || t) && u) ≡ true
queen_straight true t u e = e
queen_straight false t u e = no e

queen_diagonal : (s t u : Bool) → (t && u) ≡ true → ((s || t) && u) ≡ true
queen_diagonal true true u e = e
queen_diagonal true false u e = no e
queen_diagonal false t u e = e

queen_goes : (s t u : Bool) → ((s || t) && u) ≡ true → ((true ≡ true) × ((s && u) ≡ true)) ⊎ ((true ≡ true) × ((t && u) ≡ true)) ⊎ (true ≡ false)
queen_goes true t u e = inl (refl, e)
queen_goes false t u e = inr (inl (refl, e))

straight_attacks : (man : Man) (occupied : ℕ → Bool) (a b : ℕ) → goes_straight man ≡ true → (is_orthogonal a b && is_open occupied a b) ≡ true → attacks_as man occupied a b ≡ true
straight_attacks Q occupied a b goes e = queen_straight (is_orthogonal a b) (is_diagonal a b) (is_open occupied a b) e
straight_attacks R occupied a b goes e = e
straight_attacks BlackQ occupied a b goes e = queen_straight (is_orthogonal a b) (is_diagonal a b) (is_open occupied a b) e
straight_attacks BlackR occupied a b goes e = e
straight_attacks K occupied a b goes e = no goes
straight_attacks B occupied a b goes e = no goes
straight_attacks N occupied a b goes e = no goes
straight_attacks P occupied a b goes e = no goes
straight_attacks BlackK occupied a b goes e = no goes
straight_attacks BlackB occupied a b goes e = no goes
straight_attacks BlackN occupied a b goes e = no goes
straight_attacks BlackP occupied a b goes e = no goes
straight_attacks Empty occupied a b goes e = no goes

diagonal_attacks : (man : Man) (occupied : ℕ → Bool) (a b : ℕ) → goes_diagonally man ≡ true → (is_diagonal a b && is_open occupied a b) ≡ true → attacks_as man occupied a b ≡ true
diagonal_attacks Q occupied a b goes e = queen_diagonal (is_orthogonal a b) (is_diagonal a b) (is_open occupied a b) e
diagonal_attacks B occupied a b goes e = e
diagonal_attacks BlackQ occupied a b goes e = queen_diagonal (is_orthogonal a b) (is_diagonal a b) (is_open occupied a b) e
diagonal_attacks BlackB occupied a b goes e = e
diagonal_attacks K occupied a b goes e = no goes
diagonal_attacks R occupied a b goes e = no goes
diagonal_attacks N occupied a b goes e = no goes
diagonal_attacks P occupied a b goes e = no goes
diagonal_attacks BlackK occupied a b goes e = no goes
diagonal_attacks BlackR occupied a b goes e = no goes
diagonal_attacks BlackN occupied a b goes e = no goes
diagonal_attacks BlackP occupied a b goes e = no goes
diagonal_attacks Empty occupied a b goes e = no goes

abbrev Straight : Man → (ℕ → Bool) → ℕ → ℕ → Type 0
Straight man occupied a b = (goes_straight man ≡ true) × ((is_orthogonal a b && is_open occupied a b) ≡ true)

abbrev Diagonal : Man → (ℕ → Bool) → ℕ → ℕ → Type 0
Diagonal man occupied a b = (goes_diagonally man ≡ true) × ((is_diagonal a b && is_open occupied a b) ≡ true)

how_it_attacks : (man : Man) (occupied : ℕ → Bool) (a b : ℕ) → attacks_as man occupied a b ≡ true → Straight man occupied a b ⊎ Diagonal man occupied a b ⊎ (slides man ≡ false)
how_it_attacks Q occupied a b e = queen_goes (is_orthogonal a b) (is_diagonal a b) (is_open occupied a b) e
how_it_attacks BlackQ occupied a b e = queen_goes (is_orthogonal a b) (is_diagonal a b) (is_open occupied a b) e
how_it_attacks R occupied a b e = inl (refl, e)
how_it_attacks BlackR occupied a b e = inl (refl, e)
how_it_attacks B occupied a b e = inr (inl (refl, e))
how_it_attacks BlackB occupied a b e = inr (inl (refl, e))
how_it_attacks K occupied a b e = inr (inr refl)
how_it_attacks N occupied a b e = inr (inr refl)
how_it_attacks P occupied a b e = inr (inr refl)
how_it_attacks BlackK occupied a b e = inr (inr refl)
how_it_attacks BlackN occupied a b e = inr (inr refl)
how_it_attacks BlackP occupied a b e = inr (inr refl)
how_it_attacks Empty occupied a b e = no e

-- with the men of a board
module _ (men : List Man) (from empty : ℕ) (free : IsSetOf empty (IsChosen is_nothing men (2 ^ 64 - 1))) where
  nothing_is : (man : Man) → not (is_nothing man) ≡ not (same_man man Empty)
  nothing_is K = refl
  nothing_is Q = refl
  nothing_is R = refl
  nothing_is B = refl
  nothing_is N = refl
  nothing_is P = refl
  nothing_is BlackK = refl
  nothing_is BlackQ = refl
  nothing_is BlackR = refl
  nothing_is BlackB = refl
  nothing_is BlackN = refl
  nothing_is BlackP = refl
  nothing_is Empty = refl

  same_truth : (a b : Bool) → (a ≡ true → b ≡ true) → (b ≡ true → a ≡ true) → a ≡ b
  same_truth true b f g = sym (f refl)
  same_truth false true f g = g refl
  same_truth false false f g = refl

  same_occupied : (s : ℕ) → s < 64 → not (has empty s) ≡ is_occupied men s
  same_occupied s low =
      ap not (same_truth (has empty s) (is_nothing (man_at men s))
      (λ h. ((free s low).0 ((has_exactly empty s).0 h)).1)
      (λ e. (has_exactly empty s).1 ((free s low).1 (bit_at_ones 64 s low, e))))
      ∙ nothing_is (man_at men s)

  same_reach : (files ranks : ℤ) (s t : ℕ) → reaches files ranks (λ q. not (has empty q)) s t ≡ reaches files ranks (is_occupied men) s t
  same_reach files ranks s t = ap (λ xs. contains xs t) (seen_same (λ q. not (has empty q)) (is_occupied men) (ray_from files ranks s) same_occupied (ray_board files ranks s))

  straight_attack : (s t : ℕ) → s < 64 → t < 64 → goes_straight (man_at men s) ≡ true → sees orthogonals (is_occupied men) s t ≡ true → attacks men s t ≡ true
  unfolding attacks
  straight_attack s t low below goes e = straight_attacks (man_at men s) (is_occupied men) s t goes (sym (sees_orthogonals (is_occupied men) s t low below) ∙ e)

  diagonal_attack : (s t : ℕ) → s < 64 → t < 64 → goes_diagonally (man_at men s) ≡ true → sees diagonals (is_occupied men) s t ≡ true → attacks men s t ≡ true
  unfolding attacks
  diagonal_attack s t low below goes e = diagonal_attacks (man_at men s) (is_occupied men) s t goes (sym (sees_diagonals (is_occupied men) s t low below) ∙ e)

  attack_by : (s t : ℕ) → s < 64 → t < 64 → attacks men s t ≡ true
      → ((goes_straight (man_at men s) ≡ true) × (sees orthogonals (is_occupied men) s t ≡ true))
      ⊎ ((goes_diagonally (man_at men s) ≡ true) × (sees diagonals (is_occupied men) s t ≡ true)) ⊎ (slides (man_at men s) ≡ false)
  unfolding attacks
  attack_by s t low below e = by_way (how_it_attacks (man_at men s) (is_occupied men) s t e)
    where
      by_way : Straight (man_at men s) (is_occupied men) s t ⊎ Diagonal (man_at men s) (is_occupied men) s t ⊎ (slides (man_at men s) ≡ false)
          → ((goes_straight (man_at men s) ≡ true) × (sees orthogonals (is_occupied men) s t ≡ true))
          ⊎ ((goes_diagonally (man_at men s) ≡ true) × (sees diagonals (is_occupied men) s t ≡ true)) ⊎ (slides (man_at men s) ≡ false)
      by_way (inl h) = inl (h.0, sees_orthogonals (is_occupied men) s t low below ∙ h.1)
      by_way (inr (inl h)) = inr (inl (h.0, sees_diagonals (is_occupied men) s t low below ∙ h.1))
      by_way (inr (inr h)) = inr (inr h)

  module _ (straight diagonal t : ℕ) (below : t < 64) (rooks : IsSetOf straight (IsChosen goes_straight men from)) (bishops : IsSetOf diagonal (IsChosen goes_diagonally men from)) where
    straight_way : (files ranks : ℤ) (slid : ℕ) → IsSetOf slid (IsSlid files ranks straight empty)
        → ((s : ℕ) → reaches files ranks (is_occupied men) s t ≡ true → sees orthogonals (is_occupied men) s t ≡ true) → Has slid t → IsAttacked men from t
    straight_way files ranks slid slides one h =
        let p = (slides t below).0 h in let m = (rooks p.0 p.1).0 p.2 in
        (p.0, p.1, m.0, straight_attack p.0 t p.1 below m.1 (one p.0 (sym (same_reach files ranks p.0 t) ∙ p.3)))

    diagonal_way : (files ranks : ℤ) (slid : ℕ) → IsSetOf slid (IsSlid files ranks diagonal empty)
        → ((s : ℕ) → reaches files ranks (is_occupied men) s t ≡ true → sees diagonals (is_occupied men) s t ≡ true) → Has slid t → IsAttacked men from t
    diagonal_way files ranks slid slides one h =
        let p = (slides t below).0 h in let m = (bishops p.0 p.1).0 p.2 in
        (p.0, p.1, m.0, diagonal_attack p.0 t p.1 below m.1 (one p.0 (sym (same_reach files ranks p.0 t) ∙ p.3)))

    straight_back : (files ranks : ℤ) (slid s : ℕ) → IsSetOf slid (IsSlid files ranks straight empty) → s < 64 → Has from s → goes_straight (man_at men s) ≡ true
        → reaches files ranks (is_occupied men) s t ≡ true → Has slid t
    straight_back files ranks slid s slides low h goes e = (slides t below).1 (s, low, (rooks s low).1 (h, goes), same_reach files ranks s t ∙ e)

    diagonal_back : (files ranks : ℤ) (slid s : ℕ) → IsSetOf slid (IsSlid files ranks diagonal empty) → s < 64 → Has from s → goes_diagonally (man_at men s) ≡ true
        → reaches files ranks (is_occupied men) s t ≡ true → Has slid t
    diagonal_back files ranks slid s slides low h goes e = (slides t below).1 (s, low, (bishops s low).1 (h, goes), same_reach files ranks s t ∙ e)

abbrev four : Bool → Bool → Bool → Bool → Bool
four a b c d = a || (b || (c || (d || false)))

one_of_four : (a b c d : Bool) → four a b c d ≡ true → (a ≡ true) ⊎ (b ≡ true) ⊎ (c ≡ true) ⊎ (d ≡ true)
one_of_four true b c d e = inl refl
one_of_four false true c d e = inr (inl refl)
one_of_four false false true d e = inr (inr (inl refl))
one_of_four false false false true e = inr (inr (inr refl))
one_of_four false false false false e = no e

is_first : (a b c d : Bool) → a ≡ true → four a b c d ≡ true
is_first true b c d e = refl
is_first false b c d e = no e

is_second : (a b c d : Bool) → b ≡ true → four a b c d ≡ true
is_second true b c d e = refl
is_second false true c d e = refl
is_second false false c d e = no e

is_third : (a b c d : Bool) → c ≡ true → four a b c d ≡ true
is_third true b c d e = refl
is_third false true c d e = refl
is_third false false true d e = refl
is_third false false false d e = no e

is_fourth : (a b c d : Bool) → d ≡ true → four a b c d ≡ true
is_fourth true b c d e = refl
is_fourth false true c d e = refl
is_fourth false false true d e = refl
is_fourth false false false true e = refl
is_fourth false false false false e = no e

-- the eight slides of the two sets
pub record Slides (straight diagonal empty n s w e ne nw se sw : ℕ) : Type 0 where
  pub up : IsSetOf n (IsSlid (pos 0) (pos 1) straight empty)
  pub down : IsSetOf s (IsSlid (pos 0) (negsuc 0) straight empty)
  pub left : IsSetOf w (IsSlid (negsuc 0) (pos 0) straight empty)
  pub right : IsSetOf e (IsSlid (pos 1) (pos 0) straight empty)
  pub northeast : IsSetOf ne (IsSlid (pos 1) (pos 1) diagonal empty)
  pub northwest : IsSetOf nw (IsSlid (negsuc 0) (pos 1) diagonal empty)
  pub southeast : IsSetOf se (IsSlid (pos 1) (negsuc 0) diagonal empty)
  pub southwest : IsSetOf sw (IsSlid (negsuc 0) (negsuc 0) diagonal empty)

abbrev pub union_of_eight : ℕ → ℕ → ℕ → ℕ → ℕ → ℕ → ℕ → ℕ → ℕ
union_of_eight n s w e ne nw se sw = bit_or (bit_or (bit_or (bit_or (bit_or (bit_or (bit_or n s) w) e) ne) nw) se) sw

module _ (n s w e ne nw se sw t : ℕ) where
  in_some : (A : Type 0) → (Has n t → A) → (Has s t → A) → (Has w t → A) → (Has e t → A) → (Has ne t → A) → (Has nw t → A) → (Has se t → A)
      → (Has sw t → A) → Has (union_of_eight n s w e ne nw se sw) t → A
  in_some A an as_ aw ae ane anw ase asw h =
      ⊎_elim (λ h7. ⊎_elim (λ h6. ⊎_elim (λ h5. ⊎_elim (λ h4. ⊎_elim
      (λ h3. ⊎_elim (λ h2. ⊎_elim an as_ (in_either n s t h2)) aw (in_either _ w t h3)) ae (in_either _ e t h4)) ane (in_either _ ne t h5)) anw
      (in_either _ nw t h6)) ase (in_either _ se t h7)) asw
      (in_either _ sw t h)

pub all_attacks : (men : List Man) (from empty straight diagonal n s w e ne nw se sw leaps : ℕ) → IsSetOf empty (IsChosen is_nothing men (2 ^ 64 - 1))
    → IsSetOf straight (IsChosen goes_straight men from) → IsSetOf diagonal (IsChosen goes_diagonally men from) → Slides straight diagonal empty n s w e ne nw se sw
    → IsSetOf leaps (λ to. (square : ℕ) × (square < 64) × IsLeap men from square to) → IsSetOf (bit_or (union_of_eight n s w e ne nw se sw) leaps) (IsAttacked men from)
all_attacks men from empty straight diagonal n s w e ne nw se sw leaps free rooks bishops all others t below = (there, back)
  where
    r : ℤ → ℤ → ℕ → Bool
    r files ranks q = reaches files ranks (is_occupied men) q t

    there : Has (bit_or (union_of_eight n s w e ne nw se sw) leaps) t → IsAttacked men from t
    there h = ⊎_elim
        (in_some n s w e ne nw se sw t (IsAttacked men from t)
        (straight_way men from empty free straight diagonal t below rooks bishops (pos 0) (pos 1) n all.up
        (λ q i. is_first (reaches (pos 0) (pos 1) (is_occupied men) q t) (reaches (pos 0) (negsuc 0) (is_occupied men) q t)
        (reaches (negsuc 0) (pos 0) (is_occupied men) q t) (reaches (pos 1) (pos 0) (is_occupied men) q t) i))
        (straight_way men from empty free straight diagonal t below rooks bishops (pos 0) (negsuc 0) s all.down
        (λ q i. is_second (reaches (pos 0) (pos 1) (is_occupied men) q t) (reaches (pos 0) (negsuc 0) (is_occupied men) q t)
        (reaches (negsuc 0) (pos 0) (is_occupied men) q t) (reaches (pos 1) (pos 0) (is_occupied men) q t) i))
        (straight_way men from empty free straight diagonal t below rooks bishops (negsuc 0) (pos 0) w all.left
        (λ q i. is_third (reaches (pos 0) (pos 1) (is_occupied men) q t) (reaches (pos 0) (negsuc 0) (is_occupied men) q t)
        (reaches (negsuc 0) (pos 0) (is_occupied men) q t) (reaches (pos 1) (pos 0) (is_occupied men) q t) i))
        (straight_way men from empty free straight diagonal t below rooks bishops (pos 1) (pos 0) e all.right
        (λ q i. is_fourth (reaches (pos 0) (pos 1) (is_occupied men) q t) (reaches (pos 0) (negsuc 0) (is_occupied men) q t)
        (reaches (negsuc 0) (pos 0) (is_occupied men) q t) (reaches (pos 1) (pos 0) (is_occupied men) q t) i))
        (diagonal_way men from empty free straight diagonal t below rooks bishops (pos 1) (pos 1) ne all.northeast
        (λ q i. is_first (reaches (pos 1) (pos 1) (is_occupied men) q t) (reaches (negsuc 0) (pos 1) (is_occupied men) q t)
        (reaches (pos 1) (negsuc 0) (is_occupied men) q t) (reaches (negsuc 0) (negsuc 0) (is_occupied men) q t) i))
        (diagonal_way men from empty free straight diagonal t below rooks bishops (negsuc 0) (pos 1) nw all.northwest
        (λ q i. is_second (reaches (pos 1) (pos 1) (is_occupied men) q t) (reaches (negsuc 0) (pos 1) (is_occupied men) q t)
        (reaches (pos 1) (negsuc 0) (is_occupied men) q t) (reaches (negsuc 0) (negsuc 0) (is_occupied men) q t) i))
        (diagonal_way men from empty free straight diagonal t below rooks bishops (pos 1) (negsuc 0) se all.southeast
        (λ q i. is_third (reaches (pos 1) (pos 1) (is_occupied men) q t) (reaches (negsuc 0) (pos 1) (is_occupied men) q t)
        (reaches (pos 1) (negsuc 0) (is_occupied men) q t) (reaches (negsuc 0) (negsuc 0) (is_occupied men) q t) i))
        (diagonal_way men from empty free straight diagonal t below rooks bishops (negsuc 0) (negsuc 0) sw all.southwest
        (λ q i. is_fourth (reaches (pos 1) (pos 1) (is_occupied men) q t) (reaches (negsuc 0) (pos 1) (is_occupied men) q t)
        (reaches (pos 1) (negsuc 0) (is_occupied men) q t) (reaches (negsuc 0) (negsuc 0) (is_occupied men) q t) i)))
        (λ leap. let p = (others t below).0 leap in (p.0, p.1, p.2.0, p.2.2)) (in_either (union_of_eight n s w e ne nw se sw) leaps t h)

    in_union : Has (union_of_eight n s w e ne nw se sw) t → Has (bit_or (union_of_eight n s w e ne nw se sw) leaps) t
    in_union h = from_first _ leaps t h

    back : IsAttacked men from t → Has (bit_or (union_of_eight n s w e ne nw se sw) leaps) t
    back p = by_way (attack_by men from empty free p.0 t p.1 below p.3)
      where
        by_four : (reaches (pos 0) (pos 1) (is_occupied men) p.0 t ≡ true) ⊎ (reaches (pos 0) (negsuc 0) (is_occupied men) p.0 t ≡ true)
            ⊎ (reaches (negsuc 0) (pos 0) (is_occupied men) p.0 t ≡ true) ⊎ (reaches (pos 1) (pos 0) (is_occupied men) p.0 t ≡ true)
            → goes_straight (man_at men p.0) ≡ true → Has (union_of_eight n s w e ne nw se sw) t
        by_four (inl i) goes = from_first _ sw t (from_first _ se t
            (from_first _ nw t (from_first _ ne t (from_first _ e t
            (from_first _ w t (from_first n s t (straight_back men from empty free straight diagonal t below rooks bishops (pos 0)
            (pos 1) n p.0 all.up p.1 p.2 goes i)))))))
        by_four (inr (inl i)) goes = from_first _ sw t (from_first _ se t
            (from_first _ nw t (from_first _ ne t (from_first _ e t
            (from_first _ w t (from_second n s t (straight_back men from empty free straight diagonal t below rooks bishops (pos 0)
            (negsuc 0) s p.0 all.down p.1 p.2 goes i)))))))
        by_four (inr (inr (inl i))) goes = from_first _ sw t (from_first _ se t
            (from_first _ nw t (from_first _ ne t (from_first _ e t
            (from_second _ w t (straight_back men from empty free straight diagonal t below rooks bishops (negsuc 0) (pos 0) w p.0 all.left p.1 p.2 goes i))))))
        by_four (inr (inr (inr i))) goes = from_first _ sw t (from_first _ se t
            (from_first _ nw t (from_first _ ne t (from_second _ e t
            (straight_back men from empty free straight diagonal t below rooks bishops (pos 1) (pos 0) e p.0 all.right p.1 p.2 goes i)))))

        by_diagonal : (reaches (pos 1) (pos 1) (is_occupied men) p.0 t ≡ true) ⊎ (reaches (negsuc 0) (pos 1) (is_occupied men) p.0 t ≡ true)
            ⊎ (reaches (pos 1) (negsuc 0) (is_occupied men) p.0 t ≡ true) ⊎ (reaches (negsuc 0) (negsuc 0) (is_occupied men) p.0 t ≡ true)
            → goes_diagonally (man_at men p.0) ≡ true → Has (union_of_eight n s w e ne nw se sw) t
        by_diagonal (inl i) goes = from_first _ sw t (from_first _ se t
            (from_first _ nw t (from_second _ ne t (diagonal_back men from empty free straight diagonal t below rooks bishops (pos 1)
            (pos 1) ne p.0 all.northeast p.1 p.2 goes i))))
        by_diagonal (inr (inl i)) goes = from_first _ sw t (from_first _ se t
            (from_second _ nw t (diagonal_back men from empty free straight diagonal t below rooks bishops (negsuc 0) (pos 1) nw p.0 all.northwest p.1 p.2 goes i)))
        by_diagonal (inr (inr (inl i))) goes = from_first _ sw t
            (from_second _ se t (diagonal_back men from empty free straight diagonal t below rooks bishops (pos 1) (negsuc 0) se p.0 all.southeast p.1 p.2 goes i))
        by_diagonal (inr (inr (inr i))) goes = from_second _ sw t (diagonal_back men from empty free straight diagonal t below rooks bishops (negsuc 0) (negsuc 0) sw p.0 all.southwest p.1 p.2 goes i)

        by_way : ((goes_straight (man_at men p.0) ≡ true) × (sees orthogonals (is_occupied men) p.0 t ≡ true))
            ⊎ ((goes_diagonally (man_at men p.0) ≡ true) × (sees diagonals (is_occupied men) p.0 t ≡ true)) ⊎ (slides (man_at men p.0) ≡ false)
            → Has (bit_or (union_of_eight n s w e ne nw se sw) leaps) t
        by_way (inl h) = in_union (by_four (one_of_four _ _ _ _ h.1) h.0)
        by_way (inr (inl h)) = in_union (by_diagonal (one_of_four _ _ _ _ h.1) h.0)
        by_way (inr (inr h)) = from_second _ leaps t ((others t below).1 (p.0, p.1, (p.2, h, p.3)))
