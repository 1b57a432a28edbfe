-- The origins of a move, and the result by them.
use Rattle.std.proofs.Common.{◌≡◌, ℕ, zero, suc, ◌+◌, ◌<◌, ◌≤◌, ◌↔◌, Bool, true, false, cond, List, [], ◌∷◌, ◌++◌, length, take, get_or, refl, sym, ap, ◌∙◌, arith, append-nil}
use Rattle.std.specs.List.{filter}
use Rattle.std.proofs.lemmas.List.{take_all}
use Rattle.std.proofs.lemmas.List.Elements.{filter_more}
use Rattle.std.proofs.lemmas.List.FromFn.{get_or-range_with_len}
use Rattle.cq_geometry.specs.Squares.{squares}
use Rattle.cq_position.specs.declared.moves.Move.{Move}
use Rattle.cq_position.specs.Board.{Board}
use Rattle.cq_position.specs.Legal.{Legal}
use Rattle.cq_position.specs.Legality.{legal_test}
use Rattle.cq_position.proofs.Legality.{legal_law}

-- tests that pass alike are the same
pub same_test : (a b : Bool) → (a ≡ true → b ≡ true) → (b ≡ true → a ≡ true) → a ≡ b
same_test true true to from = refl
same_test false false to from = refl
same_test true false to from = sym (to refl)
same_test false true to from = from refl

pub legal_is_passing : (p : Board) (m : Move) (b : Bool) → (b ≡ true) ↔ ((q : Board) × Legal p m q) → b ≡ legal_test p m
legal_is_passing p m b law =
    same_test b (legal_test p m) (λ h. (legal_law p m).1 (law.0 h)) (λ h. law.1 ((legal_law p m).0 h))

-- the squares so far that pass a test
pub so_far : (ℕ → Bool) → ℕ → List ℕ
so_far test n = filter test (take n squares)

square_at : (n : ℕ) → n < 64 → get_or squares n 0 ≡ n
unfolding squares
square_at n h = omega (arith, get_or-range_with_len 0 64 n 0 h)

board_length : length squares ≡ 64
unfolding squares
board_length = refl

one_more : (test : ℕ → Bool) (n : ℕ) → n < 64 → so_far test (n + 1) ≡ so_far test n ++ cond (test n) (n ∷ []) []
unfolding so_far
one_more test n h =
    let within : n < length squares = omega (arith, board_length) in
    filter_more test squares n 0 within ∙ ap (λ s. filter test (take n squares) ++ cond (test s) (s ∷ []) []) (square_at n h)

pub so_far-start : (test : ℕ → Bool) → so_far test 0 ≡ []
unfolding so_far
so_far-start test = refl

pub so_far-with : (test : ℕ → Bool) (n : ℕ) → n < 64 → test n ≡ true → so_far test (n + 1) ≡ so_far test n ++ n ∷ []
so_far-with test n h passes = one_more test n h ∙ ap (λ t. so_far test n ++ cond t (n ∷ []) []) passes

pub so_far-without : (test : ℕ → Bool) (n : ℕ) → n < 64 → test n ≡ false → so_far test (n + 1) ≡ so_far test n
so_far-without test n h fails = one_more test n h ∙ ap (λ t. so_far test n ++ cond t (n ∷ []) []) fails ∙ append-nil (so_far test n)

pub so_far-end : (test : ℕ → Bool) (n : ℕ) → 64 ≤ n → so_far test n ≡ filter test squares
unfolding so_far
so_far-end test n h = ap (filter test) (take_all n squares (omega (arith, board_length)))

few_more : (t : Bool) (x : ℕ) (kept xs : List ℕ) → length kept ≤ length xs → length (cond t (x ∷ kept) kept) ≤ length (x ∷ xs)
few_more true x kept xs few = omega (arith, few)
few_more false x kept xs few = omega (arith, few)

kept_few : (test : ℕ → Bool) (xs : List ℕ) → length (filter test xs) ≤ length xs
kept_few test [] = omega arith
kept_few test (x ∷ xs) = few_more (test x) x (filter test xs) xs (kept_few test xs)

length_taken : (n : ℕ) (xs : List ℕ) → length (take n xs) ≤ n
length_taken zero xs = omega arith
length_taken (suc n) [] = omega arith
length_taken (suc n) (x ∷ xs) = omega (arith, length_taken n xs)

pub so_far-room : (test : ℕ → Bool) (n : ℕ) → length (so_far test n) ≤ n
unfolding so_far
so_far-room test n = omega (arith, kept_few test (take n squares), length_taken n squares)
