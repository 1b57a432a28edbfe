-- Reads, writes and counts of the men on a board.
use Rattle.std.proofs.Common.{◌≡◌, ◌≢◌, ℕ, ◌+◌, ◌-◌, ◌<◌, ◌≤◌, ◌⊎◌, Bool, true, false, cond, List, [], ◌∷◌, length, get_or, refl, sym, ap, ◌∙◌, subst, inl, inr, arith}
use Rattle.std.specs.Prelude.{slice_set, slice_range, count_by}
use Rattle.std.specs.List.{list_any}
use Rattle.std.proofs.lemmas.Bool.{cases_lt, eq-eqb, eqb-true, cases_eq, or_parts, or_from, false_from_ne_true}
use Rattle.std.proofs.lemmas.List.{get_or_past, get_or-set_same, get_or-set_other, length-set}
use Rattle.std.proofs.lemmas.List.Edits.{get_or-between, length-between}
use Rattle.std.proofs.lemmas.List.Elements.{All-from_get_or}
use Rattle.std.proofs.lemmas.List.Folds.{list_any_at, list_any_none}
use Rattle.std.proofs.lemmas.List.Sums.{sum_by-set}
use Rattle.cq_position.specs.declared.men.Man.{Man}
use Rattle.cq_position.specs.declared.men.Man.TheVariants.{K, Q, R, B, N, P, BlackK, BlackQ, BlackR, BlackB, BlackN, BlackP, Empty}
use Rattle.cq_position.specs.Men.{man_number, same_man}
use Rattle.cq_position.specs.Board.{man_at, stands, is_pawn, has_pawn_on_edge}

abbrev man_of_number : ℕ → Man
man_of_number n = get_or (K ∷ Q ∷ R ∷ B ∷ N ∷ P ∷ BlackK ∷ BlackQ ∷ BlackR ∷ BlackB ∷ BlackN ∷ BlackP ∷ []) n Empty

man_of_its_number : (m : Man) → man_of_number (man_number m) ≡ m
man_of_its_number K = refl
man_of_its_number Q = refl
man_of_its_number R = refl
man_of_its_number B = refl
man_of_its_number N = refl
man_of_its_number P = refl
man_of_its_number BlackK = refl
man_of_its_number BlackQ = refl
man_of_its_number BlackR = refl
man_of_its_number BlackB = refl
man_of_its_number BlackN = refl
man_of_its_number BlackP = refl
man_of_its_number Empty = refl

pub same_man-is : (m n : Man) → same_man m n ≡ true → m ≡ n
same_man-is m n e = sym (man_of_its_number m) ∙ ap man_of_number (eqb-true (man_number m) (man_number n) e) ∙ man_of_its_number n

pub same_man-itself : (m n : Man) → m ≡ n → same_man m n ≡ true
same_man-itself m n e = rw e (eq-eqb (man_number n) (man_number n) refl)

pub stands-is : (men : List Man) (square : ℕ) (man : Man) → stands men square man ≡ true → man_at men square ≡ man
stands-is men square man e = same_man-is (man_at men square) man e

pub stands_there : (men : List Man) (square : ℕ) (man : Man) → man_at men square ≡ man → stands men square man ≡ true
stands_there men square man e = same_man-itself (man_at men square) man e

-- a write, read at its square and at another
pub man_at-set_same : (men : List Man) (i : ℕ) (man : Man) → i < length men → man_at (slice_set men i man) i ≡ man
man_at-set_same men i man h = get_or-set_same men i man Empty h

pub man_at-set_other : (men : List Man) (i k : ℕ) (man : Man) → k ≢ i → man_at (slice_set men i man) k ≡ man_at men k
man_at-set_other men i k man h = get_or-set_other men i k man Empty h

pub length-set_man : (men : List Man) (i : ℕ) (man : Man) → length men ≡ 64 → length (slice_set men i man) ≡ 64
length-set_man men i man h = length-set men i man ∙ h

-- a write in a count
abbrev pub counted : Bool → ℕ
counted b = cond b 1 0

pub count-set : (t : Man → Bool) (men : List Man) (i : ℕ) (man : Man) → i < length men
    → count_by t (slice_set men i man) + counted (t (man_at men i)) ≡ count_by t men + counted (t man)
count-set t men i man h = sum_by-set (λ m. cond (t m) 1 0) men i man Empty h

-- the first and the last rank
abbrev pub IsEdge : ℕ → Type 0
IsEdge square = (square < 8) ⊎ (56 ≤ square)

pub record EdgeFree (men : List Man) : Type 0 where
  pub free : (square : ℕ) → IsEdge square → is_pawn (man_at men square) ≡ false

rank_free : (men : List Man) (start end square : ℕ) → start + 8 ≡ end → end ≤ length men → list_any is_pawn (slice_range men start end) ≡ false
    → start ≤ square → square < end → is_pawn (man_at men square) ≡ false
rank_free men start end square w h none low high =
    let there : start + (square - start) ≡ square = omega arith in
    let short : square - start < length (slice_range men start end) = omega (arith, length-between men start end h) in
    false_from_ne_true (is_pawn (man_at men square)) (λ e.
    let read : get_or (slice_range men start end) (square - start) Empty ≡ man_at men square
    = get_or-between men start end (square - start) Empty (omega arith) ∙ ap (λ k. man_at men k) there in
    let some : list_any is_pawn (slice_range men start end) ≡ true
    = list_any_at is_pawn (slice_range men start end) (square - start) Empty short (ap is_pawn read ∙ e) in
    let bad : false ≡ true = sym none ∙ some in cc)

edge_free : (men : List Man) → length men ≡ 64 → list_any is_pawn (slice_range men 0 8) ≡ false → list_any is_pawn (slice_range men 56 64) ≡ false
    → (square : ℕ) → IsEdge square → is_pawn (man_at men square) ≡ false
edge_free men w first last square (inl h) = rank_free men 0 8 square refl (omega arith) first (omega arith) h
edge_free men w first last square (inr h) = elim (cases_lt square 64) [
  | inl lt ↦ rank_free men 56 64 square refl (omega arith) last h lt
  | inr le ↦ ap is_pawn (get_or_past men square Empty (omega arith))
]

pub EdgeFree-from : (men : List Man) → length men ≡ 64 → has_pawn_on_edge men ≡ false → EdgeFree men
EdgeFree-from men w none =
    let both = or_parts (list_any is_pawn (slice_range men 0 8)) (list_any is_pawn (slice_range men 56 64)) none in
    record {
      free = λ square e. edge_free men w both.0 both.1 square e;
    }

rank_none : (men : List Man) (start end : ℕ) → start + 8 ≡ end → end ≤ length men → ((square : ℕ) → start ≤ square → square < end → is_pawn (man_at men square) ≡ false)
    → list_any is_pawn (slice_range men start end) ≡ false
rank_none men start end w h free =
    list_any_none is_pawn (slice_range men start end)
    (All-from_get_or (λ m. is_pawn m ≡ false) (slice_range men start end) Empty (λ k lt.
    let short : k < end - start = omega (arith, length-between men start end h) in
    let read : get_or (slice_range men start end) k Empty ≡ man_at men (start + k) = get_or-between men start end k Empty (omega arith) in
    ap is_pawn read ∙ free (start + k) (omega arith) (omega arith)))

pub EdgeFree-gives : (men : List Man) → length men ≡ 64 → EdgeFree men → has_pawn_on_edge men ≡ false
EdgeFree-gives men w e =
    or_from (list_any is_pawn (slice_range men 0 8)) (list_any is_pawn (slice_range men 56 64))
    (rank_none men 0 8 refl (omega arith) (λ square low high. e.free square (inl high)))
    (rank_none men 56 64 refl (omega arith) (λ square low high. e.free square (inr low)))

pub EdgeFree-set : (men : List Man) (i : ℕ) (man : Man) → i < length men → (IsEdge i → is_pawn man ≡ false) → EdgeFree men → EdgeFree (slice_set men i man)
EdgeFree-set men i man h ok e = record {
  free = λ square edge. elim (cases_eq square i) [
    | inl same ↦
        let there : man_at (slice_set men i man) square ≡ man = ap (λ k. man_at (slice_set men i man) k) same ∙ man_at-set_same men i man h in
        ap is_pawn there ∙ ok (subst IsEdge same edge)
    | inr other ↦ ap is_pawn (man_at-set_other men i square man other) ∙ e.free square edge
  ];
}
