-- The set of the men in some positions.
use Rattle.std.proofs.Common.{◌≡◌, ℕ, ◌+◌, ◌<◌, ◌≤◌, ⊎_elim, Bool, true, false, cond, List, [], ◌∷◌, length, take, get_or, refl, sym, ap, ap₂, ◌∙◌, arith, eqb-true}
use Rattle.std.specs.Prelude.{◌||◌, ◌&&◌, ◌==◌, ◌^◌, max}
use Rattle.std.specs.Int.{bit_at}
use Rattle.std.specs.Int.Bits.{bit_or}
use Rattle.std.specs.List.{list_any, filter, range_with_len}
use Rattle.std.proofs.lemmas.Bool.{cases_lt, false_from_ne_true, eq-eqb}
use Rattle.std.proofs.lemmas.Nat.Bits.{bit_at_or, bit_at_ones, bit_at-lt, bit_at-pow_same, bit_at-pow_other, bit_at-zero}
use Rattle.std.proofs.lemmas.List.{take_all}
use Rattle.std.proofs.lemmas.List.Folds.{list_any-append, list_any_more}
use Rattle.cq_position.specs.declared.men.Man.{Man}
use Rattle.cq_position.specs.declared.men.Man.TheVariants.{K, Q, R, B, N, P, BlackK, BlackQ, BlackR, BlackB, BlackN, BlackP, Empty}
use Rattle.cq_position.specs.Board.{Board}
use Rattle.cq_position.specs.Men.{man_number}
use Rattle.cq_position.specs.Games.{Game, Node, node_at, is_searched, searched}
use Rattle.cq_position.specs.Search.{has_man, has_man_in}
use Rattle.pgn_tree.proofs.Linking.{same_or_not}
use Rattle.pgn_tree.proofs.MainLine.{filter_more}

abbrev pub has_bit : ℕ → ℕ → Bool
has_bit set b = bit_at set b == 1

or_same : (x y : ℕ) → x < 2 → y ≡ 1 → max x y ≡ 1
or_same x y h one = omega (arith, h, one)

or_other : (x y : ℕ) → y ≡ 0 → max x y ≡ x
or_other x y none = omega (arith, none)

or_true : (t : Bool) → (t || true) ≡ true
or_true true = refl
or_true false = refl

or_false : (t : Bool) → (t || false) ≡ t
or_false true = refl
or_false false = refl

or_assoc : (a b c : Bool) → ((a || b) || c) ≡ (a || (b || c))
or_assoc true b c = refl
or_assoc false b c = refl

-- a set with one more bit
one_more : (set n b : ℕ) → has_bit (bit_or set (2 ^ n)) b ≡ (has_bit set b || (n == b))
one_more set n b = ⊎_elim
    (λ same. ap (λ k. k == 1) (bit_at_or set (2 ^ n) b ∙ or_same (bit_at set b) (bit_at (2 ^ n) b) (bit_at-lt set b) (ap (λ i. bit_at (2 ^ i) b) same ∙ bit_at-pow_same b))
    ∙ sym (or_true (has_bit set b)) ∙ ap (λ t. has_bit set b || t) (sym (eq-eqb n b same)))
    (λ differ. ap (λ k. k == 1) (bit_at_or set (2 ^ n) b ∙ or_other (bit_at set b) (bit_at (2 ^ n) b) (bit_at-pow_other n b (λ e. differ (sym e))))
    ∙ sym (or_false (has_bit set b)) ∙ ap (λ t. has_bit set b || t) (sym (false_from_ne_true (n == b) (λ e. differ (eqb-true n b e)))))
    (same_or_not n b)

-- the men of more and more squares
pub no_squares : (set : ℕ) (men : List Man) (b : ℕ) → has_bit set b ≡ (has_bit set b || list_any (λ m. man_number m == b) (take 0 men))
no_squares set men b = sym (or_false (has_bit set b))

pub more_squares : (set old new i : ℕ) (men : List Man) (d : Man) → i < length men → new ≡ bit_or old (2 ^ man_number (get_or men i d))
    → ((b : ℕ) → has_bit old b ≡ (has_bit set b || list_any (λ m. man_number m == b) (take i men)))
    → (b : ℕ) → has_bit new b ≡ (has_bit set b || list_any (λ m. man_number m == b) (take (i + 1) men))
more_squares set old new i men d h is so b =
    ap (λ n. has_bit n b) is ∙ one_more old (man_number (get_or men i d)) b
    ∙ ap (λ t. t || (man_number (get_or men i d) == b)) (so b)
    ∙ or_assoc (has_bit set b) (list_any (λ m. man_number m == b) (take i men)) (man_number (get_or men i d) == b)
    ∙ ap (λ t. has_bit set b || t) (sym (list_any_more (λ m. man_number m == b) men i d h))

pub all_squares : (p : Board) (set new k : ℕ) → length p.men ≤ k
    → ((b : ℕ) → has_bit new b ≡ (has_bit set b || list_any (λ m. man_number m == b) (take k p.men))) → (b : ℕ) → has_bit new b ≡ (has_bit set b || has_man p b)
unfolding has_man
all_squares p set new k all so b = so b ∙ ap (λ l. has_bit set b || list_any (λ m. man_number m == b) l) (take_all k p.men all)

-- the men of more and more nodes
abbrev pub men_in : Bool → List Node → ℕ → ℕ → Bool
men_in variations nodes k b = list_any (λ n. has_man (node_at nodes n).position b) (filter (is_searched variations nodes) (range_with_len 0 k))

pub no_nodes : (variations : Bool) (nodes : List Node) (b : ℕ) → has_bit 0 b ≡ men_in variations nodes 0 b
no_nodes variations nodes b = ap (λ n. n == 1) (bit_at-zero b)

one_node : (t : Bool) (f : ℕ → Bool) (k : ℕ) → list_any f (cond t (k ∷ []) []) ≡ (t && f k)
one_node true f k = or_false (f k)
one_node false f k = refl

pub more_nodes : (variations : Bool) (nodes : List Node) (old new k : ℕ) → ((b : ℕ) → has_bit old b ≡ men_in variations nodes k b)
    → ((b : ℕ) → has_bit new b ≡ (has_bit old b || (is_searched variations nodes k && has_man (node_at nodes k).position b)))
    → (b : ℕ) → has_bit new b ≡ men_in variations nodes (k + 1) b
more_nodes variations nodes old new k so is b =
    let f : ℕ → Bool = λ n. has_man (node_at nodes n).position b in
    is b ∙ ap₂ (λ s t. s || t) (so b) (sym (one_node (is_searched variations nodes k) f k))
    ∙ sym (list_any-append f (filter (is_searched variations nodes) (range_with_len 0 k)) (cond (is_searched variations nodes k) (k ∷ []) []))
    ∙ ap (list_any f) (sym (filter_more (is_searched variations nodes) k))

pub all_nodes : (g : Game) (variations : Bool) (set k : ℕ) → k ≡ length g.nodes → ((b : ℕ) → has_bit set b ≡ men_in variations g.nodes k b)
    → (b : ℕ) → has_bit set b ≡ has_man_in (record { game = g; variations = variations }) b
unfolding has_man_in searched
all_nodes g variations set k all so b = so b ∙ ap (λ n. men_in variations g.nodes n b) all

-- ---- all men

number_below : (m : Man) → man_number m < 13
number_below K = omega (arith)
number_below Q = omega (arith)
number_below R = omega (arith)
number_below B = omega (arith)
number_below N = omega (arith)
number_below P = omega (arith)
number_below BlackK = omega (arith)
number_below BlackQ = omega (arith)
number_below BlackR = omega (arith)
number_below BlackB = omega (arith)
number_below BlackN = omega (arith)
number_below BlackP = omega (arith)
number_below Empty = omega (arith)

none_above : (men : List Man) (b : ℕ) → 13 ≤ b → list_any (λ m. man_number m == b) men ≡ false
none_above [] b above = refl
none_above (m ∷ men) b above =
    ap₂ (λ s t. s || t) (false_from_ne_true (man_number m == b) (λ e. omega (arith, number_below m, eqb-true (man_number m) b e, above)))
    (none_above men b above)

and_false : (t : Bool) → (t && false) ≡ false
and_false true = refl
and_false false = refl

-- a position adds nothing to the set of all men
pub nothing_new : (set b : ℕ) (t : Bool) (p : Board) → set ≡ 8191 → has_bit set b ≡ (has_bit set b || (t && has_man p b))
unfolding has_man
nothing_new set b t p is = ⊎_elim
    (λ below. let one : has_bit set b ≡ true = ap (λ n. n == 1) (ap (λ n. bit_at n b) is ∙ bit_at_ones 13 b below) in
    one ∙ sym (ap (λ s. s || (t && list_any (λ m. man_number m == b) p.men)) one))
    (λ above. sym (ap (λ s. has_bit set b || (t && s)) (none_above p.men b above) ∙ ap (λ s. has_bit set b || s) (and_false t) ∙ or_false (has_bit set b)))
    (cases_lt b 13)
