-- The number of squares of a set, and the sum of the values of the men on them.
use Rattle.std.proofs.Common.{◌≡◌, ℕ, ◌+◌, ◌*◌, ◌<◌, ◌^◌, Bool, true, false, cond, ◌&&◌, ◌||◌, List, [], ◌∷◌, length, map, count_by, sum_by, refl, sym, ap, ◌∙◌, arith}
use Rattle.std.specs.Prelude.{if◌then◌else◌, bit_and, bit_or}
use Rattle.std.specs.Int.{bit_at}
use Rattle.std.specs.Int.RustNames.{count_ones}
use Rattle.std.proofs.lemmas.Nat.Bits.{same_from_bits_below}
use Rattle.std.proofs.lemmas.List.{get_or-map, length-map}
use Rattle.std.proofs.lemmas.Simd.{mask_l-lt, bit_mask_l, ones-mask_l}
use Rattle.std.proofs.lemmas.List.Sums.{sum_by-cons}
use lib.Lanes.{mask_l}
use Rattle.std.specs.Prelude.{get_or}
use Rattle.cq_geometry.specs.Squares.{squares}
use Rattle.cq_geometry.proofs.Tables.{at_square}
use Rattle.cq_position.specs.Bitboards.{IsBitboard, bit_of}
use Rattle.cq_position.specs.Board.{stands, man_at}
use Rattle.cq_position.specs.Men.{same_man}
use Rattle.cq_position.specs.declared.men.Man.{Man}
use Rattle.cq_position.specs.declared.men.Man.TheVariants.{K, Q, R, B, N, P, BlackK, BlackQ, BlackR, BlackB, BlackN, BlackP, Empty}
use Rattle.cq_square_sets.proofs.Marked.{marks_or, marks_and}
use Rattle.cq_symmetry.specs.Images.{is_in}
use Rattle.cql_syntax.specs.Values.{worth}
use Rattle.cql_values.specs.Internal.Squares.{piece_value_in}
use Rattle.cql_values.proofs.Masks.{bit_is}

of_bit : (b : Bool) → bit_of b ≡ cond b 1 0
of_bit true = refl
of_bit false = refl

all_squares : length squares ≡ 64
unfolding squares
all_squares = refl

-- the square of a number is that number
own_number : (k : ℕ) → k < 64 → get_or squares k 0 ≡ k
unfolding squares
own_number k low = at_square (λ s. get_or squares s 0) (λ s. s) refl k low

as_mask : (mask : ℕ) (test : ℕ → Bool) → mask < 2 ^ 64 → IsBitboard mask test → mask ≡ mask_l (map test squares)
as_mask mask test fits is =
    let len = length-map squares test ∙ all_squares in
    let below : mask_l (map test squares) < 2 ^ 64 = rw len at (mask_l-lt (map test squares)) in
    same_from_bits_below 64 mask (mask_l (map test squares)) fits below
    (λ k low. is.bit k low ∙ of_bit (test k)
    ∙ ap (λ b. cond b 1 0) (ap test (sym (own_number k low)) ∙ sym (get_or-map test squares k 0 false (omega (arith, all_squares, low))))
    ∙ sym (bit_mask_l (map test squares) k))

pub count_value : (mask : ℕ) (test : ℕ → Bool) → mask < 2 ^ 64 → IsBitboard mask test → count_ones mask ≡ count_by test squares
count_value mask test fits is = ap count_ones (as_mask mask test fits is) ∙ ones-mask_l test squares

-- a set is that of its own squares
pub own_squares : (set : ℕ) → IsBitboard set (is_in set)
own_squares set = record { bit = λ k low. bit_is set k }

abbrev one : Bool → ℕ
one b = if b then 1 else 0

weighed : (f : ℕ → ℕ) (a b c d : ℕ → Bool) → ((s : ℕ) → f s ≡ one (a s) + 3 * one (b s) + 5 * one (c s) + 9 * one (d s)) → (xs : List ℕ)
    → sum_by f xs ≡ count_by a xs + 3 * count_by b xs + 5 * count_by c xs + 9 * count_by d xs
weighed f a b c d each [] = refl
weighed f a b c d each (x ∷ xs) =
    let here = each x in
    let rest = weighed f a b c d each xs in
    let whole = sum_by-cons f x xs in
    let firsts : count_by a (x ∷ xs) ≡ one (a x) + count_by a xs = sum_by-cons (λ s. one (a s)) x xs in
    let bs : count_by b (x ∷ xs) ≡ one (b x) + count_by b xs = sum_by-cons (λ s. one (b s)) x xs in
    let cs : count_by c (x ∷ xs) ≡ one (c x) + count_by c xs = sum_by-cons (λ s. one (c s)) x xs in
    let ds : count_by d (x ∷ xs) ≡ one (d x) + count_by d xs = sum_by-cons (λ s. one (d s)) x xs in
    omega (arith, here, rest, whole, firsts, bs, cs, ds)

-- the men that are worth the same
abbrev pub is_pawn : Man → Bool
is_pawn m = same_man m P || same_man m BlackP

abbrev pub is_minor : Man → Bool
is_minor m = (same_man m N || same_man m BlackN) || (same_man m B || same_man m BlackB)

abbrev pub is_rook : Man → Bool
is_rook m = same_man m R || same_man m BlackR

abbrev pub is_queen : Man → Bool
is_queen m = same_man m Q || same_man m BlackQ

worth_is : (there : Bool) (m : Man) → (if there then worth m else 0)
    ≡ one (there && is_pawn m) + 3 * one (there && is_minor m) + 5 * one (there && is_rook m) + 9 * one (there && is_queen m)
worth_is true K = refl
worth_is true Q = refl
worth_is true R = refl
worth_is true B = refl
worth_is true N = refl
worth_is true P = refl
worth_is true BlackK = refl
worth_is true BlackQ = refl
worth_is true BlackR = refl
worth_is true BlackB = refl
worth_is true BlackN = refl
worth_is true BlackP = refl
worth_is true Empty = refl
worth_is false m = refl

pub worth_in_all : (men : List Man) (set : ℕ) → sum_by (piece_value_in men set) squares
    ≡ count_by (λ s. is_in set s && is_pawn (man_at men s)) squares + 3 * count_by (λ s. is_in set s && is_minor (man_at men s)) squares
    + 5 * count_by (λ s. is_in set s && is_rook (man_at men s)) squares + 9 * count_by (λ s. is_in set s && is_queen (man_at men s)) squares
worth_in_all men set = weighed (piece_value_in men set)
    (λ s. is_in set s && is_pawn (man_at men s)) (λ s. is_in set s && is_minor (man_at men s))
    (λ s. is_in set s && is_rook (man_at men s)) (λ s. is_in set s && is_queen (man_at men s))
    (λ s. worth_is (is_in set s) (man_at men s)) squares
