-- The designator of a text has men, squares, and flags that are right for the squares.
use Rattle.std.proofs.Common.{◌≡◌, ℕ, zero, ◌^◌, ◌<◌, ◌≤◌, min, max, Bool, true, false, cond, List, [], ◌∷◌, length, take, drop, Option, None, Some, refl, subst, arith, bit_or}
use Rattle.std.specs.Prelude.{◌&&◌, ◌||◌, ◌==◌, not, nat_le, nat_lt, option_and_then}
use Rattle.std.specs.Int.{is_in_range}
use Rattle.std.specs.List.{position, slice_split}
use Rattle.std.specs.Option.{option_map, option_or}
use Rattle.std.proofs.Math.Pow.{pow_mono, pow-lt, ones_lt}
use Rattle.std.proofs.lemmas.Bool.{and_parts, le-leb, leb-true, ltb-true}
use Rattle.std.proofs.lemmas.List.Quantifiers.{position-Some}
use Rattle.std.proofs.lemmas.List.Splits.{length-slice_split}
use Rattle.std.proofs.lemmas.Nat.{le_or_l, le_or_r, or_lt}
use Rattle.std.proofs.lemmas.Option.{cond_some, none-some, option_and_then_some, same_Some}
use Rattle.cql_syntax.specs.declared.leaves.Designator.{Designator}
use Rattle.cql_lexer.specs.Characters.{is_comma}
use Rattle.cql_syntax.specs.Words.{man_letters}
use Rattle.cql_lexer.specs.Designators.{union_of_designators, in_brackets, men_of_letter, men_of_letters, men_of, squares_within, rectangle, specification, specifications, squares_of, men_on, any_men, all_squares, men_then_squares, designator}
use Rattle.cql_lexer.specs.Longest.{longest}
use Rattle.cql_lexer.specs.Tokens.{IsProperDesignator}
use Rattle.cql_lexer.proofs.Longest.{longest_parts}
use Rattle.cql_lexer.proofs.Rectangles.{all_on, at_one}

-- some of k men or squares
abbrev AreSome : ℕ → ℕ → Type 0
AreSome k set = (0 < set) × (set < 2 ^ k)

-- the source of an option's value

by_or : {X P : Type 0} (a b : Option X) (x : X) → (a ≡ Some x → P) → (b ≡ Some x → P) → option_or a b ≡ Some x → P
by_or None b x f g e = g e
by_or (Some a) b x f g e = f e

by_if : {X P : Type 0} (t : Bool) (a b : Option X) (x : X) → (a ≡ Some x → P) → (b ≡ Some x → P) → cond t a b ≡ Some x → P
by_if true a b x f g e = f e
by_if false a b x f g e = g e

by_map : {X Y P : Type 0} (h : X → Y) (o : Option X) (y : Y) → ((x : X) → o ≡ Some x → h x ≡ y → P) → option_map h o ≡ Some y → P
by_map h None y f e = absurd (none-some y e)
by_map h (Some x) y f e = f x refl (same_Some (h x) y e)

-- unions

joined : (k a b : ℕ) → AreSome k a → AreSome k b → AreSome k (bit_or a b)
joined k a b p q = let low = le_or_l a b in let some = p.0 in (omega (arith, low, some), or_lt k a b p.1 q.1)

none_and : (k a : ℕ) → AreSome k a → AreSome k (bit_or 0 a)
none_and k a p =
    let low = le_or_r 0 a in let some = p.0 in let fits = p.1 in
    (omega (arith, low, some), or_lt k 0 a (omega (arith, fits)) p.1)

more_united : {X : Type 0} (read : X → Option ℕ) (k so_far : ℕ) (items : List X) (set : ℕ) → ((x : X) (n : ℕ) → read x ≡ Some n → AreSome k n)
    → AreSome k so_far → union_of_designators read so_far items ≡ Some set → AreSome k set
more_united read k so_far [] set each here e = subst (AreSome k) (same_Some so_far set e) here
more_united read k so_far (x ∷ xs) set each here e =
    option_and_then_some (λ n. union_of_designators read (bit_or so_far n) xs) (read x) set e (λ n is rest.
    more_united read k (bit_or so_far n) xs set each (joined k so_far n here (each x n is)) rest)

all_united : {X : Type 0} (read : X → Option ℕ) (k : ℕ) (items : List X) (set : ℕ) → ((x : X) (n : ℕ) → read x ≡ Some n → AreSome k n)
    → 0 < length items → union_of_designators read 0 items ≡ Some set → AreSome k set
all_united read k [] set each some e = absurd (omega arith)
all_united read k (x ∷ xs) set each some e =
    option_and_then_some (λ n. union_of_designators read (bit_or 0 n) xs) (read x) set e (λ n is rest.
    more_united read k (bit_or 0 n) xs set each (none_and k n (each x n is)) rest)

-- men

power : (k : ℕ) → k < 13 → AreSome 13 (2 ^ k)
power k h = let low : 1 ≤ 2 ^ k = pow_mono {i = zero} {j = k} (omega arith) in (omega (arith, low), pow-lt h)

letter_by : (a b c : Bool) (place : Option ℕ) (men : ℕ) → ((k : ℕ) → place ≡ Some k → k < 13)
    → cond a (Some 0x003f) (cond b (Some 0x0fc0) (cond c (Some 0x1fff) (option_map (λ man. 2 ^ man) place))) ≡ Some men → AreSome 13 men
letter_by true b c place men h e = subst (AreSome 13) (same_Some 0x003f men e) (omega arith, omega arith)
letter_by false true c place men h e = subst (AreSome 13) (same_Some 0x0fc0 men e) (omega arith, omega arith)
letter_by false false true place men h e = subst (AreSome 13) (same_Some 0x1fff men e) (omega arith, omega arith)
letter_by false false false place men h e = by_map (λ man. 2 ^ man) place men (λ k is power_is. subst (AreSome 13) power_is (power k (h k is))) e

letter_some : (letter men : ℕ) → men_of_letter letter ≡ Some men → AreSome 13 men
letter_some letter men e = letter_by (letter == 65) (letter == 97) (letter == 46) (position (λ man. man == letter) man_letters) men
    (λ k is. (position-Some (λ man. man == letter) man_letters k 0 is).0) e

letters_some : (text : List ℕ) (men : ℕ) → men_of_letters text ≡ Some men → AreSome 13 men
letters_some [] men e = absurd (none-some men e)
letters_some (letter ∷ letters) men e = all_united men_of_letter 13 (letter ∷ letters) men letter_some (omega arith) e

group_some : (text : List ℕ) (men : ℕ) → option_and_then men_of_letters (in_brackets text) ≡ Some men → AreSome 13 men
group_some text men e = option_and_then_some men_of_letters (in_brackets text) men e (λ inside is found. letters_some inside men found)

men_some : (text : List ℕ) (men : ℕ) → men_of text ≡ Some men → AreSome 13 men
men_some [] men e = group_some [] men e
men_some (letter ∷ []) men e = letter_some letter men e
men_some (letter ∷ next ∷ text) men e = group_some (letter ∷ next ∷ text) men e

-- squares

abbrev has_some : ℕ → ℕ → ℕ → ℕ → Bool
has_some file last_file rank last_rank =
    not (nat_le file last_file) || not (nat_le rank last_rank)
    || (nat_lt 0 (squares_within file last_file rank last_rank) && nat_lt (squares_within file last_file rank last_rank) (2 ^ 64))

table : all_on (λ file. all_on (λ last_file. all_on (λ rank. all_on (λ last_rank. has_some file last_file rank last_rank) 49 8) 49 8) 97 8) 97 8 ≡ true
unfolding squares_within
table = refl

by_table : (x y m n set bound : ℕ) → x ≤ y → m ≤ n → (not (nat_le x y) || not (nat_le m n) || (nat_lt 0 set && nat_lt set bound)) ≡ true → (0 < set) × (set < bound)
by_table x y m n set bound a b h =
    let e : nat_le x y ≡ true = le-leb x y a in
    let f : nat_le m n ≡ true = le-leb m n b in
    let g = rw (e, f) at h in
    (ltb-true 0 set (and_parts _ _ g).0, ltb-true set bound (and_parts _ _ g).1)

within_some : (file last_file rank last_rank : ℕ) → 97 ≤ file → file ≤ last_file → last_file ≤ 104 → 49 ≤ rank → rank ≤ last_rank → last_rank ≤ 56
    → AreSome 64 (squares_within file last_file rank last_rank)
within_some file last_file rank last_rank a b c d e f =
    by_table file last_file rank last_rank _ _ b e
    (at_one (λ s. has_some file last_file rank s) 49 8
    (at_one (λ r. all_on (λ s. has_some file last_file r s) 49 8) 49 8
    (at_one (λ l. all_on (λ r. all_on (λ s. has_some file l r s) 49 8) 49 8) 97 8
    (at_one (λ k. all_on (λ l. all_on (λ r. all_on (λ s. has_some k l r s) 49 8) 49 8) 97 8) 97 8 table file a (omega arith))
    last_file (omega arith) (omega arith))
    rank d (omega arith))
    last_rank (omega arith) (omega arith))

in_range : (low high n : ℕ) → is_in_range low high n ≡ true → (low ≤ n) × (n ≤ high)
in_range low high n e = let p = and_parts _ _ e in (leb-true low n p.0, leb-true n high p.1)

rectangle_some : (file last_file rank last_rank set : ℕ) → rectangle file last_file rank last_rank ≡ Some set → AreSome 64 set
rectangle_some file last_file rank last_rank set e =
    let found = cond_some _ _ _ e in
    let three = and_parts _ _ found.0 in
    let two = and_parts _ _ three.0 in
    let one = and_parts _ _ two.0 in
    let a = in_range 97 104 file one.0 in
    let b = in_range 97 104 last_file one.1 in
    let c = in_range 49 56 rank two.1 in
    let d = in_range 49 56 last_rank three.1 in
    let a0 = a.0 in let a1 = a.1 in let b0 = b.0 in let b1 = b.1 in let c0 = c.0 in let c1 = c.1 in let d0 = d.0 in let d1 = d.1 in
    subst (AreSome 64) found.1
    (within_some (min file last_file) (max file last_file) (min rank last_rank) (max rank last_rank)
    (omega (arith, a0, b0)) (omega arith) (omega (arith, a1, b1)) (omega (arith, c0, d0)) (omega arith) (omega (arith, c1, d1)))

specification_some : (text : List ℕ) (set : ℕ) → specification text ≡ Some set → AreSome 64 set
specification_some [] set e = absurd (none-some set e)
specification_some (a ∷ []) set e = absurd (none-some set e)
specification_some (a ∷ b ∷ []) set e = rectangle_some a a b b set e
specification_some (a ∷ b ∷ c ∷ []) set e = absurd (none-some set e)
specification_some (a ∷ b ∷ c ∷ d ∷ []) set e =
    by_if (b == 45) (rectangle a c d d) (cond (c == 45) (rectangle a a b d) None) set (rectangle_some a c d d set)
    (by_if (c == 45) (rectangle a a b d) None set (rectangle_some a a b d set) (λ none. absurd (none-some set none))) e
specification_some (a ∷ b ∷ c ∷ d ∷ x ∷ []) set e = absurd (none-some set e)
specification_some (a ∷ b ∷ c ∷ d ∷ x ∷ y ∷ []) set e =
    by_if (b == 45 && x == 45) (rectangle a c d y) None set (rectangle_some a c d y set) (λ none. absurd (none-some set none)) e
specification_some (a ∷ b ∷ c ∷ d ∷ x ∷ y ∷ z ∷ text) set e = absurd (none-some set e)

specifications_some : (text : List ℕ) (set : ℕ) → specifications text ≡ Some set → AreSome 64 set
specifications_some text set e =
    let parts = length-slice_split is_comma text in
    all_united specification 64 (slice_split is_comma text) set specification_some (omega (arith, parts)) e

squares_some : (text : List ℕ) (set : ℕ) → squares_of text ≡ Some set → AreSome 64 set
squares_some text set e =
    by_or (specification text) (option_and_then specifications (in_brackets text)) set (specification_some text set)
    (λ other. option_and_then_some specifications (in_brackets text) set other (λ inside is found. specifications_some inside set found)) e

-- designators

proper : (men squares : ℕ) → AreSome 13 men → AreSome 64 squares → IsProperDesignator (men_on men squares)
unfolding men_on
proper men squares m s = record { men = m.0; men_fit = m.1; squares = s.0; squares_fit = s.1; whole_ranks = refl; whole_files = refl }

some_men : AreSome 13 any_men
some_men = (omega arith, omega arith)

some_squares : AreSome 64 all_squares
some_squares = (omega arith, ones_lt 64)

men_then_squares_proper : (text : List ℕ) (d : Designator) → men_then_squares text ≡ Some d → IsProperDesignator d
men_then_squares_proper text d e =
    option_and_then_some (λ men. option_map (men_on men.0) (squares_of (drop men.1 text))) (longest men_of text) d e (λ men is rest.
    by_map (men_on men.0) (squares_of (drop men.1 text)) d (λ squares found made.
    subst IsProperDesignator made
    (proper men.0 squares (men_some (take men.1 text) men.0 (longest_parts men_of text men.0 men.1 is).reads) (squares_some (drop men.1 text) squares found)))
    rest)

pub designator_proper : (text : List ℕ) (d : Designator) → designator text ≡ Some d → IsProperDesignator d
unfolding designator
designator_proper text d e =
    by_or (men_then_squares text) _ d (men_then_squares_proper text d)
    (by_or (option_map (men_on any_men) (squares_of text)) (option_map (λ men. men_on men all_squares) (men_of text)) d
    (by_map (men_on any_men) (squares_of text) d (λ squares found made.
    subst IsProperDesignator made (proper any_men squares some_men (squares_some text squares found))))
    (by_map (λ men. men_on men all_squares) (men_of text) d (λ men found made.
    subst IsProperDesignator made (proper men all_squares (men_some text men found) some_squares))))
    e
