-- Sets of squares as numbers of 64 bits.
use Rattle.std.proofs.Common.{◌≡◌, ℕ, ◌+◌, ◌-◌, ◌^◌, ◌<◌, ◌≤◌, Bool, true, false, not, ◌&&◌, ◌||◌, nat_eq, nat_lt, refl, sym, ap, ap₂, ◌∙◌, arith, inl, inr, length, get_or, List, map, take, max, min}
use Rattle.std.specs.List.{list_any, list_all, range_with_len}
use Rattle.std.specs.Int.{bit_at, bit_not, w64}
use Rattle.std.specs.Prelude.{bit_or, bit_and}
use Rattle.std.proofs.Math.Facts.{Fits-lt-pow, Fits-of_lt, Fits-and}
use Rattle.std.proofs.Math.Path.{fun_ext}
use Rattle.std.proofs.lemmas.Bool.{cases_Bool, cases_lt, eqb-true, ne_eqb, lt-ltb, le-ltb}
use Rattle.std.proofs.lemmas.Bool.Decides.{nat_tests}
use Rattle.std.proofs.lemmas.Nat.Bits.{bit_at-zero, bit_at-lt, bit_at_above, bit_at_not, bit_at_or, bit_at_and, bit_at_ones, same_from_bits_below}
use Rattle.std.proofs.lemmas.List.Folds.{list_any_more, list_all_more}
use Rattle.cq_geometry.specs.Squares.{squares}
use Rattle.cq_geometry.proofs.Tables.{at_square}
use Rattle.cq_position.specs.Attacks.{attacks}
use Rattle.cq_position.specs.Bitboards.{IsBitboard, bit_of}
use Rattle.cq_position.specs.declared.men.Man.{Man}
use Rattle.cq_position.proofs.Marked.{marks_same}
use Rattle.cq_symmetry.specs.Images.{is_in, is_light, mask_of, bit}
use Rattle.cq_symmetry.proofs.Masks.{is_mask as is_mask_of}
use Rattle.cq_bits.specs.Sets.{Has, IsSetOf, IsAttacked, IsAttacker, IsBetween}
use Rattle.cq_geometry.specs.Lines.{lies_between}
use Rattle.cql_values.proofs.Ranges.{same_truth, left, right, both, some_square, square_found, same_any, any_last, any_mapped, all_mapped}

pub is_in_bit : (mask s : ℕ) (b : Bool) → bit_at mask s ≡ bit_of b → is_in mask s ≡ b
is_in_bit mask s true e = rw e refl
is_in_bit mask s false e = rw e refl

not_in : (mask s : ℕ) → is_in mask s ≡ false → bit_at mask s ≡ 0
not_in mask s e = let h = bit_at-lt mask s in grind (arith, nat_tests)

pub nothing_in : (s : ℕ) → is_in 0 s ≡ false
nothing_in s = rw (bit_at-zero s) refl

pub bit_is : (mask s : ℕ) → bit_at mask s ≡ bit_of (is_in mask s)
bit_is mask s = elim (cases_Bool (is_in mask s)) [
  | inl set ↦ rw set (eqb-true (bit_at mask s) 1 set)
  | inr unset ↦ rw unset (not_in mask s unset)
]

pub has_bit : (mask s : ℕ) → is_in mask s ≡ true → Has mask s
has_bit mask s e = eqb-true (bit_at mask s) 1 e

pub bit_in : (mask s : ℕ) → Has mask s → is_in mask s ≡ true
bit_in mask s e = rw e refl

pub above : (mask s : ℕ) → mask < 2 ^ 64 → 64 ≤ s → is_in mask s ≡ false
above mask s fits high = is_in_bit mask s false (bit_at_above mask 64 s fits high)

flipped : (b : Bool) → 1 - bit_of b ≡ bit_of (not b)
flipped true = refl
flipped false = refl

pub max_of : (t u : Bool) → max (bit_of t) (bit_of u) ≡ bit_of (t || u)
max_of true true = refl
max_of true false = refl
max_of false true = refl
max_of false false = refl

pub min_of : (t u : Bool) → min (bit_of t) (bit_of u) ≡ bit_of (t && u)
min_of true true = refl
min_of true false = refl
min_of false true = refl
min_of false false = refl

pub in_both : (a b s : ℕ) → is_in (bit_and a b) s ≡ (is_in a s && is_in b s)
in_both a b s = is_in_bit (bit_and a b) s (is_in a s && is_in b s) (bit_at_and a b s ∙ ap₂ min (bit_is a s) (bit_is b s) ∙ min_of (is_in a s) (is_in b s))

-- a set that is not empty has a square
some_set_by : (mask : ℕ) (b : Bool) → mask < 2 ^ 64 → list_any (is_in mask) squares ≡ b → not (nat_eq mask 0) ≡ b
some_set_by mask true fits e =
    let found = square_found (is_in mask) e in
    let other : mask ≡ 0 → ⊥ = (λ z. let unset = ap (λ m. is_in m found.k) z ∙ nothing_in found.k in let set = found.passes in cc) in
    ap not (ne_eqb mask 0 other)
some_set_by mask false fits e =
    let none : (s : ℕ) → s < 64 → bit_at mask s ≡ bit_at 0 s = (λ s low. elim (cases_Bool (is_in mask s)) [
      | inl set ↦ absurd (let some = some_square (is_in mask) s low set in cc)
      | inr unset ↦ not_in mask s unset ∙ sym (bit_at-zero s)
    ]) in
    let zero_is : mask ≡ 0 = same_from_bits_below 64 mask 0 fits (omega arith) none in
    rw zero_is refl

pub some_set : (mask : ℕ) → mask < 2 ^ 64 → not (nat_eq mask 0) ≡ list_any (is_in mask) squares
some_set mask fits = some_set_by mask (list_any (is_in mask) squares) fits refl

-- a set without squares off the board, by its squares on the board
pub guarded : (x t : ℕ → Bool) → ((s : ℕ) → s < 64 → x s ≡ t s) → ((s : ℕ) → 64 ≤ s → x s ≡ false) → x ≡ (λ s. nat_lt s 64 && t s)
guarded x t on off = fun_ext (λ s. elim (cases_lt s 64) [
  | inl low ↦ rw (lt-ltb s 64 low) (on s low)
  | inr high ↦ rw (le-ltb s 64 high) (off s high)
])

pub is_mask : (mask : ℕ) (test : ℕ → Bool) → mask < 2 ^ 64 → IsBitboard mask test → is_in mask ≡ (λ s. nat_lt s 64 && test s)
is_mask mask test fits board = guarded (is_in mask) test (λ s low. is_in_bit mask s (test s) (board.bit s low)) (λ s high. above mask s fits high)

pub no_squares : (λ (s : ℕ). false) ≡ is_in 0
no_squares = fun_ext (λ s. sym (nothing_in s))

pub none_pass : (test : ℕ → Bool) → ((s : ℕ) → test s ≡ false) → is_in 0 ≡ (λ s. nat_lt s 64 && test s)
none_pass test none = guarded (is_in 0) test (λ s low. nothing_in s ∙ sym (none s)) (λ s high. nothing_in s)

as_bit : (b : Bool) → bit_of b ≡ bit b
as_bit true = refl
as_bit false = refl

-- a set is the one number with its squares
pub own_mask : (mask : ℕ) (test : ℕ → Bool) → mask < 2 ^ 64 → test ≡ is_in mask → mask ≡ mask_of test
own_mask mask test fits e = is_mask_of mask test fits (λ s low. bit_is mask s ∙ ap bit_of (sym (ap (λ t. t s) e)) ∙ as_bit (test s))

pub complement_is : (mask : ℕ) → mask < 2 ^ 64 → is_in (bit_not w64 mask) ≡ (λ s. nat_lt s 64 && not (is_in mask s))
complement_is mask fits = is_mask (bit_not w64 mask) (λ s. not (is_in mask s)) (let h = fits in omega arith) (record {
  bit = λ s low. rw (bit_at_not w64 mask s fits low) (ap (λ b. 1 - b) (bit_is mask s) ∙ flipped (is_in mask s));
})

-- one more of a list of sets
pub union_more : (mask x : ℕ) (t u : ℕ → Bool) → u ≡ is_in x → IsBitboard mask t → IsBitboard (bit_or mask x) (λ s. t s || u s)
union_more mask x t u e m = record {
  bit = λ s low. rw (bit_at_or mask x s, m.bit s low, bit_is x s) (rw e (max_of (t s) (is_in x s)));
}

pub union_step : {A : Type 0} (mask x : ℕ) (xs : List A) (has : A → ℕ → Bool) (i : ℕ) (d : A) → i < length xs → has (get_or xs i d) ≡ is_in x
    → IsBitboard mask (λ s. list_any (λ v. has v s) (take i xs)) → IsBitboard (bit_or mask x) (λ s. list_any (λ v. has v s) (take (i + 1) xs))
union_step mask x xs has i d lt e m = record {
  bit = λ s low. (union_more mask x (λ s. list_any (λ v. has v s) (take i xs)) (has (get_or xs i d)) e m).bit s low ∙ ap bit_of (sym (list_any_more (λ v. has v s) xs i d lt));
}

pub union_is : {A B : Type 0} (mask : ℕ) (xs : List A) (f : A → B) (has : B → ℕ → Bool) → mask < 2 ^ 64
    → IsBitboard mask (λ s. list_any (λ v. has (f v) s) xs) → is_in mask ≡ (λ s. nat_lt s 64 && list_any (λ v. has v s) (map f xs))
union_is mask xs f has fits m = is_mask mask _ fits (record { bit = λ s low. m.bit s low ∙ ap bit_of (sym (any_mapped (λ v. has v s) f xs)) })

pub all_squares : IsBitboard (2 ^ 64 - 1) (λ s. true)
all_squares = record { bit = λ s low. bit_at_ones 64 s low }

pub intersection_step : {A : Type 0} (mask x : ℕ) (xs : List A) (has : A → ℕ → Bool) (i : ℕ) (d : A) → i < length xs → has (get_or xs i d) ≡ is_in x
    → IsBitboard mask (λ s. list_all (λ v. has v s) (take i xs)) → IsBitboard (bit_and mask x) (λ s. list_all (λ v. has v s) (take (i + 1) xs))
intersection_step mask x xs has i d lt e m = record {
  bit = λ s low. bit_at_and mask x s ∙ ap₂ min (m.bit s low) (bit_is x s ∙ ap bit_of (sym (ap (λ t. t s) e)))
      ∙ min_of (list_all (λ v. has v s) (take i xs)) (has (get_or xs i d) s) ∙ ap bit_of (sym (list_all_more (λ v. has v s) xs i d lt));
}

pub intersection_is : {A B : Type 0} (mask : ℕ) (xs : List A) (f : A → B) (has : B → ℕ → Bool) → mask < 2 ^ 64
    → IsBitboard mask (λ s. list_all (λ v. has (f v) s) xs) → is_in mask ≡ (λ s. nat_lt s 64 && list_all (λ v. has v s) (map f xs))
intersection_is mask xs f has fits m = is_mask mask _ fits (record { bit = λ s low. m.bit s low ∙ ap bit_of (sym (all_mapped (λ v. has v s) f xs)) })

-- the squares of a set that are on the board and in another
pub both_is : (a b : ℕ) (t : ℕ → Bool) → a < 2 ^ 64 → ((s : ℕ) → s < 64 → is_in b s ≡ t s) → is_in (bit_and a b) ≡ (λ s. nat_lt s 64 && (is_in a s && t s))
both_is a b t fits same = guarded (is_in (bit_and a b)) (λ s. is_in a s && t s)
    (λ s low. in_both a b s ∙ ap (λ c. is_in a s && c) (same s low))
    (λ s high. in_both a b s ∙ ap (λ c. c && is_in b s) (above a s fits high))

light_table : map (is_in 6172840429334713770) squares ≡ map is_light squares
unfolding squares
light_table = refl

dark_table : map (is_in 12273903644374837845) squares ≡ map (λ s. not (is_light s)) squares
unfolding squares
dark_table = refl

pub light_is : (a : ℕ) → a < 2 ^ 64 → is_in (bit_and a 6172840429334713770) ≡ (λ s. nat_lt s 64 && (is_in a s && is_light s))
light_is a fits = both_is a 6172840429334713770 is_light fits (at_square (is_in 6172840429334713770) is_light light_table)

pub dark_is : (a : ℕ) → a < 2 ^ 64 → is_in (bit_and a 12273903644374837845) ≡ (λ s. nat_lt s 64 && (is_in a s && not (is_light s)))
dark_is a fits = both_is a 12273903644374837845 (λ s. not (is_light s)) fits (at_square (is_in 12273903644374837845) (λ s. not (is_light s)) dark_table)

-- squares that are joined to some square of a set
joined_here : (joins : ℕ → ℕ → Bool) (set mask s : ℕ) → s < 64 → IsSetOf mask (λ q. (t : ℕ) × (t < 64) × Has set t × (joins t q ≡ true))
    → is_in mask s ≡ list_any (λ t. is_in set t && joins t s) squares
joined_here joins set mask s low m = same_truth (is_in mask s) (list_any (λ t. is_in set t && joins t s) squares)
    (λ e. let f = (m s low).0 (has_bit mask s e) in some_square (λ t. is_in set t && joins t s) f.0 f.1 (both (is_in set f.0) (joins f.0 s) (bit_in set f.0 f.2) f.3))
    (λ e. let f = square_found (λ t. is_in set t && joins t s) e in
    let low' : f.k < 64 = omega (arith, f.high) in
    bit_in mask s ((m s low).1 (f.k, low', has_bit set f.k (left (is_in set f.k) (joins f.k s) f.passes), right (is_in set f.k) (joins f.k s) f.passes)))

joined_is : (joins : ℕ → ℕ → Bool) (from set mask : ℕ) → from < 2 ^ 64 → IsSetOf mask (λ q. (t : ℕ) × (t < 64) × Has set t × (joins t q ≡ true))
    → is_in (bit_and from mask) ≡ (λ s. nat_lt s 64 && (is_in from s && list_any (λ t. is_in set t && joins t s) squares))
joined_is joins from set mask fits m = both_is from mask (λ s. list_any (λ t. is_in set t && joins t s) squares) fits (λ s low. joined_here joins set mask s low m)

-- squares that some man on a set attacks
pub attacked_is : (men : List Man) (from set mask : ℕ) → from < 2 ^ 64 → IsSetOf mask (IsAttacked men set)
    → is_in (bit_and from mask) ≡ (λ s. nat_lt s 64 && (is_in from s && list_any (λ t. is_in set t && attacks men t s) squares))
attacked_is men from set mask fits m = joined_is (attacks men) from set mask fits m

-- the squares of a set whose men attack a square of another
among_here : (men : List Man) (from set mask s : ℕ) → s < 64 → IsSetOf mask (λ q. Has from q × IsAttacker men set q)
    → is_in mask s ≡ (is_in from s && list_any (λ t. is_in set t && attacks men s t) squares)
among_here men from set mask s low m =
    let test = λ (t : ℕ). is_in set t && attacks men s t in
    same_truth (is_in mask s) (is_in from s && list_any test squares)
    (λ e. let f = (m s low).0 (has_bit mask s e) in both (is_in from s) (list_any test squares) (bit_in from s f.0)
    (some_square test f.1.0 f.1.1 (both (is_in set f.1.0) (attacks men s f.1.0) (bit_in set f.1.0 f.1.2) f.1.3)))
    (λ e. let f = square_found test (right (is_in from s) (list_any test squares) e) in
    let low' : f.k < 64 = omega (arith, f.high) in
    bit_in mask s ((m s low).1 (
      has_bit from s (left (is_in from s) (list_any test squares) e),
      (f.k, low', has_bit set f.k (left (is_in set f.k) (attacks men s f.k) f.passes), right (is_in set f.k) (attacks men s f.k) f.passes),
    )))

pub among_is : (men : List Man) (from set mask : ℕ) → mask < 2 ^ 64 → IsSetOf mask (λ q. Has from q × IsAttacker men set q)
    → is_in mask ≡ (λ s. nat_lt s 64 && (is_in from s && list_any (λ t. is_in set t && attacks men s t) squares))
among_is men from set mask fits m = guarded (is_in mask) (λ s. is_in from s && list_any (λ t. is_in set t && attacks men s t) squares)
    (λ s low. among_here men from set mask s low m) (λ s high. above mask s fits high)

between_here : (a b mask s : ℕ) → s < 64 → IsSetOf mask (IsBetween a b) → is_in mask s ≡ list_any (λ f. is_in a f && list_any (λ t. is_in b t && lies_between f t s) squares) squares
between_here a b mask s low m =
    let to = λ (f t : ℕ). is_in b t && lies_between f t s in
    let from = λ (f : ℕ). is_in a f && list_any (to f) squares in
    same_truth (is_in mask s) (list_any from squares)
    (λ e. let g = (m s low).0 (has_bit mask s e) in
    let h = g.3 in
    some_square from g.0 g.1 (both (is_in a g.0) (list_any (to g.0) squares) (bit_in a g.0 g.2)
    (some_square (to g.0) h.0 h.1 (both (is_in b h.0) (lies_between g.0 h.0 s) (bit_in b h.0 h.2) h.3))))
    (λ e. let f = square_found from e in
    let t = square_found (to f.k) (right (is_in a f.k) (list_any (to f.k) squares) f.passes) in
    let f_low : f.k < 64 = omega (arith, f.high) in
    let t_low : t.k < 64 = omega (arith, t.high) in
    bit_in mask s ((m s low).1 (
      f.k,
      f_low,
      has_bit a f.k (left (is_in a f.k) (list_any (to f.k) squares) f.passes),
      (t.k, t_low, has_bit b t.k (left (is_in b t.k) (lies_between f.k t.k s) t.passes), right (is_in b t.k) (lies_between f.k t.k s) t.passes),
    )))

pub between_is : (a b mask : ℕ) → mask < 2 ^ 64 → IsSetOf mask (IsBetween a b)
    → is_in mask ≡ (λ s. nat_lt s 64 && list_any (λ f. is_in a f && list_any (λ t. is_in b t && lies_between f t s) squares) squares)
between_is a b mask fits m = guarded (is_in mask) (λ s. list_any (λ f. is_in a f && list_any (λ t. is_in b t && lies_between f t s) squares) squares)
    (λ s low. between_here a b mask s low m) (λ s high. above mask s fits high)

and_swaps : (a b : Bool) → (a && b) ≡ (b && a)
and_swaps true true = refl
and_swaps true false = refl
and_swaps false true = refl
and_swaps false false = refl

-- some square of a set is one of those that pass
pub meets_is : (a set : ℕ) (t : ℕ → Bool) → a < 2 ^ 64 → IsBitboard a t → not (nat_eq (bit_and a set) 0) ≡ list_any (λ s. is_in set s && t s) squares
meets_is a set t fits m =
    some_set (bit_and a set) (Fits-lt-pow {w = w64} (Fits-and {w = w64} set (Fits-of_lt {w = w64} fits)))
    ∙ same_any (is_in (bit_and a set)) (λ s. is_in set s && t s) (λ s low. in_both a set s ∙ ap (λ c. c && is_in set s) (is_in_bit a s (t s) (m.bit s low)) ∙ and_swaps (t s) (is_in set s))

-- a set under a condition that is true
pub where_true : (mask : ℕ) (b : Bool) (t : ℕ → Bool) → b ≡ true → IsBitboard mask t → IsBitboard mask (λ s. b && t s)
where_true mask b t e m = marks_same mask t (λ s. b && t s) (λ s low. sym (ap (λ c. c && t s) e)) m

pub where_false : (b : Bool) (t : ℕ → Bool) → b ≡ false → IsBitboard 0 (λ s. b && t s)
where_false b t e = record { bit = λ s low. bit_at-zero s ∙ ap bit_of (sym (ap (λ c. c && t s) e)) }

-- one more of a list, and one more number
pub union_item : {A : Type 0} (mask x : ℕ) (xs : List A) (has : A → ℕ → Bool) (i : ℕ) (d : A) → i < length xs → IsBitboard x (has (get_or xs i d))
    → IsBitboard mask (λ s. list_any (λ v. has v s) (take i xs)) → IsBitboard (bit_or mask x) (λ s. list_any (λ v. has v s) (take (i + 1) xs))
union_item mask x xs has i d lt n m = record {
  bit = λ s low. bit_at_or mask x s ∙ ap₂ max (m.bit s low) (n.bit s low) ∙ max_of (list_any (λ v. has v s) (take i xs)) (has (get_or xs i d) s)
      ∙ ap bit_of (sym (list_any_more (λ v. has v s) xs i d lt));
}

pub union_number : (mask x k : ℕ) (has : ℕ → ℕ → Bool) → IsBitboard x (has k) → IsBitboard mask (λ s. list_any (λ j. has j s) (range_with_len 0 k))
    → IsBitboard (bit_or mask x) (λ s. list_any (λ j. has j s) (range_with_len 0 (k + 1)))
union_number mask x k has n m = record {
  bit = λ s low. bit_at_or mask x s ∙ ap₂ max (m.bit s low) (n.bit s low) ∙ max_of (list_any (λ j. has j s) (range_with_len 0 k)) (has k s)
      ∙ ap bit_of (sym (any_last (λ j. has j s) k));
}
