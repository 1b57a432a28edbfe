-- Answers that are sorted come in the order of their games, and matches in that of their keys.
use Rattle.std.proofs.Common.{◌≡◌, ◌≢◌, ◌⊎◌, inl, inr, ℕ, zero, suc, ◌+◌, ◌<◌, ◌≤◌, ℤ, pos, Bool, true, false, true≢false, List, ◌∷◌, ◌++◌, length, take, drop, get_or, filter, Some, All, AllPairs, nat_eq, refl, sym, ap, ap₂, ◌∙◌, arith, eqb-true}
use Rattle.std.proofs.lemmas.Bool.{eqb-false}
use Rattle.std.proofs.lemmas.Cmp.{int_ranked, ranked, nat_eq_equiv}
use Rattle.std.proofs.lemmas.List.{drop_all, drop_more, take_all, take_more_same, take-append-le}
use Rattle.std.proofs.lemmas.List.Elements.{All-filter, filter_passes}
use Rattle.std.proofs.lemmas.List.Kept.{AllPairs-filter}
use Rattle.std.proofs.lemmas.List.Sorted.{All-permutation, ranks_by, sorted_far}
use Rattle.std.proofs.lemmas.Map.Keys.{IsDistinct-IsPermutation, IsDistinct-from_apart, apart_from_distinct}
use Rattle.std.proofs.lemmas.Option.{slice_get-get_or}
use Rattle.std.specs.declared.cmp.Ordering.{Ordering}
use Rattle.std.specs.declared.cmp.Ordering.TheVariants.{Less, Equal, Greater}
use Rattle.std.specs.List.Sorted.{IsNonDecreasingBy, IsPermutation, IsSortedBy}
use Rattle.std.specs.Ordering.{is_gt, is_lt, nat_cmp, ordering_then}
use Rattle.std.specs.Prelude.{slice_get}
use Rattle.cq_shards.specs.declared.answers.GameAnswer.{GameAnswer}
use Rattle.cq_shards.specs.Internal.Comparing.{answer_cmp, keys_cmp, value_cmp}
use Rattle.cq_shards.specs.Order.{AreOfDistinctGames, ComesBefore, ComesFirst, HasKeys, IsEarlier, Precede, is_match, key_at, keys_in}
use Rattle.cq_shards.proofs.Comparing.{answer_total, by_item, keys_turned, no_item}

-- the elements that a slice of a whole vector writes back
pub written_back : (n : ℕ) (all xs ys : List GameAnswer) → length xs ≡ n → length ys ≡ length xs → take n (ys ++ drop (length ys) all) ≡ ys
written_back n all xs ys count same =
    take-append-le n ys (drop (length ys) all) (omega (arith, count, same)) ∙ take_all n ys (omega (arith, count, same))

same_game : GameAnswer → GameAnswer → Bool
same_game a b = nat_eq a.index b.index

not_equal : (m n : ℕ) (b : Bool) → nat_eq m n ≡ b → m ≢ n → nat_eq m n ≡ false
not_equal m n true e differ = absurd (differ (eqb-true m n e))
not_equal m n false e differ = e

pub apart_moved : (xs ys : List GameAnswer) → IsPermutation xs ys → AreOfDistinctGames xs → AreOfDistinctGames ys
unfolding same_game
apart_moved xs ys moves apart = λ i j d before inside.
    eqb-false _ _ (apart_from_distinct same_game ys i j d
    (IsDistinct-IsPermutation same_game (λ a b. nat_eq_equiv.symm a.index b.index) xs ys moves
    (IsDistinct-from_apart same_game xs (λ m n e p q. not_equal _ _ _ refl (apart m n e p q))))
    before inside)

below : (m n : ℕ) → m ≤ n → m ≢ n → m < n
below m n le differ = omega (arith, le, differ)

pub earlier_ones_first : (xs : List GameAnswer) → AreOfDistinctGames xs → IsNonDecreasingBy (λ a. a.index) xs → AllPairs IsEarlier xs
earlier_ones_first xs apart up = λ i j d before inside. below _ _ (up i j d (omega (arith, before)) inside) (apart i j d before inside)

first_value : (least : Bool) (x y : ℤ) → value_cmp least (Some x) (Some y) ≡ Less → ComesFirst least x y
first_value true x y e = int_ranked x y Less (sym e)
first_value false x y e = int_ranked y x Less (sym e)

same_value : (least : Bool) (x y : ℤ) → value_cmp least (Some x) (Some y) ≡ Equal → x ≡ y
same_value true x y e = int_ranked x y Equal (sym e)
same_value false x y e = sym (int_ranked y x Equal (sym e))

then_less : (o rest : Ordering) → ordering_then o rest ≡ Less → (o ≡ Less) ⊎ ((o ≡ Equal) × (rest ≡ Less))
then_less Less rest e = inl refl
then_less Equal rest e = inr (refl, e)
then_less Greater rest e = absurd (true≢false (sym (ap is_lt e)))

then_equal : (o rest : Ordering) → ordering_then o rest ≡ Equal → (o ≡ Equal) × (rest ≡ Equal)
then_equal Less rest e = absurd (true≢false (ap is_lt e))
then_equal Equal rest e = (refl, e)
then_equal Greater rest e = absurd (true≢false (ap is_gt e))

module _ (items : List Bool) (xs ys : List ℤ) (first_full : length xs ≡ length items) (second_full : length ys ≡ length items) where
  here : (i : ℕ) → i < length items → (o : Ordering) → value_cmp (get_or items i false) (slice_get xs i) (slice_get ys i) ≡ o
      → value_cmp (get_or items i false) (Some (key_at xs i)) (Some (key_at ys i)) ≡ o
  here i inside o e =
      sym (ap₂ (value_cmp (get_or items i false)) (slice_get-get_or xs i (pos 0) (omega (arith, inside, first_full)))
      (slice_get-get_or ys i (pos 0) (omega (arith, inside, second_full)))) ∙ e

  first_difference : (n i : ℕ) → i + n ≡ length items → take i xs ≡ take i ys → keys_cmp i (drop i items) xs ys ≡ Less → Precede items xs ys
  first_difference zero i end alike e = absurd (true≢false (sym (ap is_lt (sym (no_item items xs ys i (omega (arith, end))) ∙ e))))
  first_difference (suc n) i end alike e =
      let inside : i < length items = omega (arith, end) in
      elim (then_less _ _ (sym (by_item items xs ys i false inside) ∙ e)) [
        | inl less ↦ record { item = i; inside = inside; alike = alike; first = first_value (get_or items i false) (key_at xs i) (key_at ys i) (here i inside Less less) }
        | inr tie ↦ first_difference n (i + 1) (omega (arith, end))
            (take_more_same xs ys i (pos 0) (omega (arith, inside, first_full)) (omega (arith, inside, second_full)) alike
            (same_value (get_or items i false) (key_at xs i) (key_at ys i) (here i inside Equal tie.0))) tie.1
      ]

  no_difference : (n i : ℕ) → i + n ≡ length items → keys_cmp i (drop i items) xs ys ≡ Equal → drop i xs ≡ drop i ys
  no_difference zero i end e = drop_all i xs (omega (arith, end, first_full)) ∙ sym (drop_all i ys (omega (arith, end, second_full)))
  no_difference (suc n) i end e =
      let inside : i < length items = omega (arith, end) in
      let both = then_equal _ _ (sym (by_item items xs ys i false inside) ∙ e) in
      drop_more xs i (pos 0) (omega (arith, inside, first_full))
      ∙ ap₂ (λ key rest. key ∷ rest) (same_value (get_or items i false) (key_at xs i) (key_at ys i) (here i inside Equal both.0))
      (no_difference n (i + 1) (omega (arith, end)) both.1)
      ∙ sym (drop_more ys i (pos 0) (omega (arith, inside, second_full)))

  keys_precede : keys_cmp 0 items xs ys ≡ Less → Precede items xs ys
  keys_precede e = first_difference (length items) 0 (omega arith) refl e

  keys_agree : keys_cmp 0 items xs ys ≡ Equal → xs ≡ ys
  keys_agree e = no_difference (length items) 0 (omega arith) e

lower_first : (m n : ℕ) (o : Ordering) → nat_cmp n m ≡ o → is_lt o ≡ false → m ≢ n → m < n
lower_first m n Less e below differ = absurd (true≢false below)
lower_first m n Equal e below differ = absurd (differ (sym (ranked n m Equal (sym e))))
lower_first m n Greater e below differ = ranked n m Greater (sym e)

-- an answer that is not after another comes before it
comes_before : (items : List Bool) (a b : GameAnswer) → length (keys_in a.what) ≡ length items → length (keys_in b.what) ≡ length items
    → a.index ≢ b.index → is_lt (answer_cmp items b a) ≡ false
    → (o : Ordering) → keys_cmp 0 items (keys_in b.what) (keys_in a.what) ≡ o → ComesBefore items a b
comes_before items a b first_full second_full differ after Less e =
    absurd (true≢false (sym (ap (λ o. is_lt (ordering_then o (nat_cmp b.index a.index))) e) ∙ after))
comes_before items a b first_full second_full differ after Equal e =
    inr (
      sym (keys_agree items (keys_in b.what) (keys_in a.what) second_full first_full e),
      lower_first a.index b.index _ refl (sym (ap (λ o. is_lt (ordering_then o (nat_cmp b.index a.index))) e) ∙ after) differ,
    )
comes_before items a b first_full second_full differ after Greater e =
    inl (keys_precede items (keys_in a.what) (keys_in b.what) first_full second_full (keys_turned items (keys_in b.what) (keys_in a.what) e))

abbrev pub comes_after : List Bool → GameAnswer → GameAnswer → Bool
comes_after items a b = is_lt (answer_cmp items a b)

pub matches_in_order : (items : List Bool) (answers sorted : List GameAnswer) → AreOfDistinctGames answers → All (HasKeys items) answers
    → IsPermutation (filter is_match answers) sorted → IsSortedBy (comes_after items) sorted → AllPairs (ComesBefore items) sorted
matches_in_order items answers sorted apart full moves up = λ i j d before inside.
    let found = filter is_match answers in
    let have = All-permutation (HasKeys items) found sorted moves (All-filter is_match (HasKeys items) answers full) in
    let all = All-permutation (λ a. is_match a ≡ true) found sorted moves (filter_passes is_match answers) in
    let low : i < length sorted = omega (arith, before, inside) in
    comes_before items (get_or sorted i d) (get_or sorted j d) (have i d low (all i d low)) (have j d inside (all j d inside))
    (apart_moved found sorted moves (AllPairs-filter (λ a b. a.index ≢ b.index) is_match answers apart) i j d before inside)
    (sorted_far (comes_after items) (ranks_by (answer_total items) (λ a. a)) sorted up i j d (omega (arith, before)) inside) _ refl
