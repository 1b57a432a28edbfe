-- Sets of squares of which some are left.
use Rattle.std.proofs.Common.{◌≡◌, ◌⊎◌, ⊎_elim, inl, inr, ℕ, ◌+◌, ◌^◌, ◌<◌, ◌≤◌, ◌==◌, ◌&&◌, not, nat_lt, Bool, true, false, List, Option, Some, length, get_or, refl, sym, ap, ◌∙◌, subst, arith}
use Rattle.std.specs.Prelude.{slice_set, bit_and, bit_or}
use Rattle.std.specs.List.{list_any}
use Rattle.std.proofs.lemmas.Bool.{eqb-true, eq-eqb}
use Rattle.std.proofs.lemmas.List.{get_or-set_same, get_or-set_other, length-set}
use Rattle.cq_geometry.specs.Squares.{squares}
use Rattle.cq_position.specs.Attacks.{attacks}
use Rattle.cq_position.specs.Bitboards.{IsBitboard, bit_of, is_goal}
use Rattle.cq_position.specs.Search.{SearchedTree}
use Rattle.cq_position.specs.declared.men.Man.{Man}
use Rattle.cq_symmetry.specs.Images.{is_in}
use Rattle.cql_syntax.specs.Values.{Value, as_squares, has, related, pair_of}
use Rattle.cql_syntax.specs.declared.leaves.Pair.{Pair}
use Rattle.cql_syntax.specs.declared.leaves.Pair.TheVariants.{Attacks, AttackedBy}
use Rattle.cql_values.proofs.Masks.{in_both, nothing_in, is_in_bit, above}
use Rattle.cql_columns.specs.Columns.{is_live}
use Rattle.cql_columns.proofs.Filling.{split_last, live_below, any_default, equal_or, split_at, or_left, or_right}
use Rattle.cql_columns.proofs.Wanting.{in_either}
use Rattle.cql_candidates.specs.Covers.{AreRetained, AreAmong, HasSome, IsRelatedSquare}
use Rattle.cql_candidates.specs.Internal.SquareCuts.{IsCut}

-- those of the first k nodes
pub record CutTo (live : List Bool) (P : ℕ → ℕ → Type 0) (old : List ℕ) (k : ℕ) (new : List ℕ) : Type 0 where
  pub count : length new ≡ length old
  pub within : (n s : ℕ) → is_in (get_or new n 0) s ≡ true → is_in (get_or old n 0) s ≡ true
  pub keeps : (n s : ℕ) → n < k → is_live live n ≡ true → P n s → is_in (get_or old n 0) s ≡ true → is_in (get_or new n 0) s ≡ true
  pub rest : (n : ℕ) → k ≤ n → get_or new n 0 ≡ get_or old n 0

pub cut_none : (live : List Bool) (P : ℕ → ℕ → Type 0) (old : List ℕ) → CutTo live P old 0 old
cut_none live P old = record { count = refl; within = λ n s h. h; keeps = λ n s h a p i. absurd (omega (arith, h)); rest = λ n h. refl }

pub cut_more : (live : List Bool) (P : ℕ → ℕ → Type 0) (old now : List ℕ) (k d x : ℕ) (e : Bool) → k < length now → k < length live
    → IsCut (get_or live k e) (P k) (get_or now k d) x → CutTo live P old k now → CutTo live P old (k + 1) (slice_set now k x)
cut_more live P old now k d x e low inside one had = record {
  count = length-set now k x ∙ had.count;
  within = λ n s h. ⊎_elim
      (λ same. subst (λ i. is_in (get_or old i 0) s ≡ true) (sym same) (old_there s (one.within s (subst (λ y. is_in y s ≡ true) (at n same) h))))
      (λ away. had.within n s (subst (λ y. is_in y s ≡ true) (other n away) h))
      (equal_or n k);
  keeps = λ n s h a p i. ⊎_elim
      (λ less. subst (λ y. is_in y s ≡ true) (sym (other n (λ e. omega (arith, less, e)))) (had.keeps n s less a p i))
      (λ same. subst (λ y. is_in y s ≡ true) (sym (at n same))
      (one.keeps s (any_default live k e false inside ∙ subst (λ i. is_live live i ≡ true) same a) (subst (λ i. P i s) same p)
      (new_there s (subst (λ i. is_in (get_or old i 0) s ≡ true) same i))))
      (split_last n k h);
  rest = λ n h. other n (λ e. omega (arith, h, e)) ∙ had.rest n (omega (arith, h));
}
  where
    other : (n : ℕ) → (n ≡ k → ⊥) → get_or (slice_set now k x) n 0 ≡ get_or now n 0
    other n away = get_or-set_other now k n x 0 away

    at : (n : ℕ) → n ≡ k → get_or (slice_set now k x) n 0 ≡ x
    at n same = ap (λ i. get_or (slice_set now k x) i 0) same ∙ get_or-set_same now k x 0 low

    here : get_or now k d ≡ get_or old k 0
    here = any_default now k d 0 low ∙ had.rest k (omega arith)

    old_there : (s : ℕ) → is_in (get_or now k d) s ≡ true → is_in (get_or old k 0) s ≡ true
    old_there s h = subst (λ y. is_in y s ≡ true) here h

    new_there : (s : ℕ) → is_in (get_or old k 0) s ≡ true → is_in (get_or now k d) s ≡ true
    new_there s h = subst (λ y. is_in y s ≡ true) (sym here) h

pub cut_all : (live : List Bool) (P : ℕ → ℕ → Type 0) (old new : List ℕ) (k : ℕ) → length live ≤ k → CutTo live P old k new → AreRetained live P old new
cut_all live P old new k end had = record {
  count = had.count;
  within = had.within;
  keeps = λ n s a p i. had.keeps n s (let low = live_below live n a in omega (arith, low, end)) a p i;
}

-- none is cut, some after some, fewer
pub cut_same : (live : List Bool) (P : ℕ → ℕ → Type 0) (old : List ℕ) → AreRetained live P old old
cut_same live P old = record { count = refl; within = λ n s h. h; keeps = λ n s a p h. h }

pub cut_then : (live : List Bool) (P : ℕ → ℕ → Type 0) (old now later : List ℕ) → AreRetained live P old now → AreRetained live P now later → AreRetained live P old later
cut_then live P old now later first second = record {
  count = second.count ∙ first.count;
  within = λ n s h. first.within n s (second.within n s h);
  keeps = λ n s a p h. second.keeps n s a p (first.keeps n s a p h);
}

pub cut_as : (live : List Bool) (P Q : ℕ → ℕ → Type 0) (old new : List ℕ) → ((n s : ℕ) → is_live live n ≡ true → P n s → Q n s) → AreRetained live Q old new → AreRetained live P old new
cut_as live P Q old new from is = record { count = is.count; within = is.within; keeps = λ n s a p h. is.keeps n s a (from n s a p) h }

left_part : (a b : Bool) → (a && b) ≡ true → a ≡ true
left_part true b e = refl
left_part false b e = e

right_part : (a b : Bool) → (a && b) ≡ true → b ≡ true
right_part true b e = e
right_part false b e = cc

both_yes : (a b : Bool) → a ≡ true → b ≡ true → (a && b) ≡ true
both_yes true b e f = f
both_yes false b e f = cc

cases : (b : Bool) → (b ≡ true) ⊎ (b ≡ false)
cases true = inl refl
cases false = inr refl

-- if there are no squares none can be lost
pub cut_wide : (tree : SearchedTree) (live some : List Bool) (P : ℕ → ℕ → Type 0) (old new : List ℕ) → HasSome tree live old some → AreRetained some P old new → AreRetained live P old new
cut_wide tree live some P old new has is = record {
  count = is.count;
  within = is.within;
  keeps = λ n s a p h. is.keeps n s (has.each n ∙ both_yes (is_live live n) (not (get_or old n 0 == 0)) a (full (get_or old n 0) s h)) p h;
}
  where
    full : (x s : ℕ) → is_in x s ≡ true → not (x == 0) ≡ true
    full x s h = ⊎_elim
        (λ zero. let e : x ≡ 0 = eqb-true x 0 zero in let no = nothing_in s in let yes : is_in 0 s ≡ true = subst (λ y. is_in y s ≡ true) e h in cc)
        (λ other. ap not other)
        (cases (x == 0))

pub one_cut : (asked : Bool) (Q : ℕ → Type 0) (set more : ℕ) → ((s : ℕ) → Q s → is_in more s ≡ true) → IsCut asked Q set (bit_and set more)
one_cut asked Q set more in_more = record {
  within = λ s h. first (is_in set s) (is_in more s) (sym (in_both set more s) ∙ h);
  keeps = λ s a q h. in_both set more s ∙ both_yes (is_in set s) (is_in more s) h (in_more s q);
}
  where
    first : (a b : Bool) → (a && b) ≡ true → a ≡ true
    first true b e = refl
    first false b e = e

pub none_cut : (asked : Bool) (Q : ℕ → Type 0) (set : ℕ) → IsCut asked Q set set
none_cut asked Q set = record { within = λ s h. h; keeps = λ s a q h. h }

pub empty_cut : (asked : Bool) (Q : ℕ → Type 0) (set : ℕ) → ((s : ℕ) → asked ≡ true → Q s → ⊥) → IsCut asked Q set 0
empty_cut asked Q set never = record { within = λ s h. (let no = nothing_in s in cc); keeps = λ s a q h. absurd (never s a q) }

-- squares that stand in a relation to a set
related_kept : (test : ℕ → ℕ → Bool) (y : Value) (asked : Bool) (set new : ℕ) (Q : ℕ → Type 0) → is_in new ≡ has (related test (as_squares (is_in set)) y)
    → ((s : ℕ) → Q s → (x : Value) × (has (related test x y) s ≡ true)) → IsCut asked Q set new
related_kept test y asked set new Q is from = record {
  within = λ s h. left_part (is_in set s) (found s) (right_part (nat_lt s 64) (is_in set s && found s) (sym (ap (λ t. t s) is) ∙ h));
  keeps = λ s a q h. let x = from s q in
      ap (λ t. t s) is ∙ both_yes (nat_lt s 64) (is_in set s && found s) (left_part (nat_lt s 64) (has x.0 s && found s) x.1)
      (both_yes (is_in set s) (found s) h (right_part (has x.0 s) (found s) (right_part (nat_lt s 64) (has x.0 s && found s) x.1)));
}
  where
    found : ℕ → Bool
    found s = list_any (λ t. has y t && test s t) squares

pub related_cut : (men : List Man) (p : Pair) (y : Value) (asked : Bool) (set new : ℕ) → (p ≡ Attacks) ⊎ (p ≡ AttackedBy) → is_in new ≡ has (pair_of men p (as_squares (is_in set)) y)
    → IsCut asked (IsRelatedSquare men p y) set new
related_cut men p y asked set new which is = ⊎_elim
    (λ same. related_kept (attacks men) y asked set new (IsRelatedSquare men p y) (is ∙ ap (λ q. has (pair_of men q (as_squares (is_in set)) y)) same)
    (λ s q. (q.first, sym (ap (λ r. has (pair_of men r q.first y) s) same) ∙ q.has_there)))
    (λ same. related_kept (λ s t. attacks men t s) y asked set new (IsRelatedSquare men p y) (is ∙ ap (λ q. has (pair_of men q (as_squares (is_in set)) y)) same)
    (λ s q. (q.first, sym (ap (λ r. has (pair_of men r q.first y) s) same) ∙ q.has_there)))
    which

-- the square that a mark marks
on_board : (set s : ℕ) → set < 2 ^ 64 → is_in set s ≡ true → s < 64
on_board set s fits h = ⊎_elim (λ low. low) (λ high. (let no = above set s fits high in cc)) (split_at s 64)

pub marked_there : (set mask : ℕ) (square : Option ℕ) (s : ℕ) → set < 2 ^ 64 → is_in set s ≡ true → IsBitboard mask (is_goal square) → square ≡ Some s → is_in mask s ≡ true
marked_there set mask square s fits h is same =
    is_in_bit mask s true (is.bit s (on_board set s fits h) ∙ ap bit_of (ap (λ q. is_goal q s) same ∙ eq-eqb s s refl))

pub in_first : (set more s : ℕ) → is_in (bit_and set more) s ≡ true → is_in set s ≡ true
in_first set more s h = left_part (is_in set s) (is_in more s) (sym (in_both set more s) ∙ h)

pub in_two : (set more s : ℕ) → is_in set s ≡ true → is_in more s ≡ true → is_in (bit_and set more) s ≡ true
in_two set more s h i = in_both set more s ∙ both_yes (is_in set s) (is_in more s) h i

-- squares among which are those at the first k nodes
pub record AmongTo (live : List Bool) (sets : List ℕ) (k among : ℕ) : Type 0 where
  pub each : (n s : ℕ) → n < k → is_live live n ≡ true → is_in (get_or sets n 0) s ≡ true → is_in among s ≡ true

pub among_none : (live : List Bool) (sets : List ℕ) (among : ℕ) → AmongTo live sets 0 among
among_none live sets among = record { each = λ n s h. absurd (omega (arith, h)) }

pub among_more : (live : List Bool) (sets : List ℕ) (k among more : ℕ) → (is_live live k ≡ true → more ≡ get_or sets k 0) → AmongTo live sets k among → AmongTo live sets (k + 1) (bit_or among more)
among_more live sets k among more new had = record {
  each = λ n s h a i. in_either among more s ∙ ⊎_elim
      (λ less. or_left (is_in among s) (is_in more s) (had.each n s less a i))
      (λ same. or_right (is_in among s) (is_in more s)
      (subst (λ y. is_in y s ≡ true) (sym (new (subst (λ j. is_live live j ≡ true) same a))) (subst (λ j. is_in (get_or sets j 0) s ≡ true) same i)))
      (split_last n k h);
}

pub among_all : (live : List Bool) (sets : List ℕ) (k among : ℕ) → length live ≤ k → AmongTo live sets k among → AreAmong live sets among
among_all live sets k among end had = record { each = λ n s a i. had.each n s (let low = live_below live n a in omega (arith, low, end)) a i }
