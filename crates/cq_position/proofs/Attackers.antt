-- An attacked square is one from which an attacker is found, outward along lines and by steps.
use Rattle.std.proofs.Common.{◌≡◌, ℕ, ◌<◌, Bool, true, false, cond, not, ◌&&◌, ◌||◌, ◌==◌, List, [], ◌∷◌, reverse, map, Option, Some, None, refl, inl, inr, sym, ap, ap₂, ◌∙◌, arith}
use Rattle.std.specs.Prelude.{bit_or}
use Rattle.std.specs.List.{All, list_all, list_any, filter}
use Rattle.std.proofs.lemmas.Bool.{cases_Bool, eqb-true, or_parts}
use Rattle.std.proofs.Math.Bool.{or-false}
use Rattle.std.proofs.lemmas.Bool.Decides.{nat_tests}
use Rattle.std.proofs.lemmas.List.{reverse-append}
use Rattle.std.proofs.lemmas.List.Elements.{All-head, All-tail, All-cons, All-nil, All-weaker}
use Rattle.std.proofs.lemmas.List.Folds.{list_all-append}
use Rattle.cq_geometry.specs.declared.compass.Compass.{Compass}
use Rattle.cq_geometry.specs.Squares.{squares, file_of, rank_of}
use Rattle.cq_geometry.specs.Steps.{ray_from, is_king_step, is_knight_step, king_squares, knight_squares}
use Rattle.cq_geometry.specs.Internal.Expansions.{king_goals, knight_goals, kept_goals}
use Rattle.cq_geometry.specs.Directions.{files_of, ranks_of}
use Rattle.cq_geometry.specs.Lines.{between_squares, is_open, is_orthogonal, is_diagonal, rising_of, falling_of, seen, sees, orthogonals, diagonals}
use Rattle.cq_geometry.proofs.Board.{squares_board}
use Rattle.cq_geometry.proofs.Inside.{between_reversed}
use Rattle.cq_geometry.proofs.Neighbors.{king_goals_kept, knight_goals_kept, king_steps_back, knight_steps_back}
use Rattle.cq_geometry.proofs.Rays.{ray_board}
use Rattle.cq_geometry.proofs.Seen.{sees_orthogonals, sees_diagonals}
use Rattle.cq_geometry.proofs.Tables.{at_square, at_squares}
use Rattle.cq_position.specs.declared.men.Man.{Man}
use Rattle.cq_position.specs.declared.men.Man.TheVariants.{K, Q, R, B, N, P, BlackK, BlackQ, BlackR, BlackB, BlackN, BlackP, Empty}
use Rattle.cq_position.specs.declared.men.Side.{Side}
use Rattle.cq_position.specs.declared.men.Side.TheVariants.{White, Black}
use Rattle.cq_position.specs.declared.men.Piece.TheVariants.{Queen, Rook, Bishop}
use Rattle.cq_position.specs.Men.{same_man, is_of_side, king_of, pawn_of, man_of, opponent}
use Rattle.cq_position.specs.Board.{man_at, stands}
use Rattle.cq_position.specs.Attacks.{is_occupied, is_pawn_attack, attacks_as, attacks, attacker, is_attacked}
use Rattle.cq_square_sets.specs.Bitboards.{IsBitboard, contains}
use Rattle.cq_square_sets.proofs.Marked.{marks_same, marks_or}
use Rattle.cq_position.specs.AttackTest.{first_man, is_orthogonal_slider, is_diagonal_slider, knight_of, first_is, holds, pawn_origins, some_man}

-- ---- tests of some element
pub any_same : {X : Type 0} (p q : X → Bool) → ((x : X) → p x ≡ q x) → (xs : List X) → list_any p xs ≡ list_any q xs
any_same p q e [] = refl
any_same p q e (x ∷ xs) = ap₂ (λ a b. a || b) (e x) (any_same p q e xs)

any_same_on : {X : Type 0} (p q : X → Bool) (xs : List X) → All (λ x. p x ≡ q x) xs → list_any p xs ≡ list_any q xs
any_same_on p q [] e = refl
any_same_on p q (x ∷ xs) e =
    ap₂ (λ a b. a || b) (All-head (λ y. p y ≡ q y) x xs e) (any_same_on p q xs (All-tail (λ y. p y ≡ q y) x xs e))

swap_or : (a b c d : Bool) → ((a || b) || (c || d)) ≡ ((a || c) || (b || d))
swap_or true b c d = refl
swap_or false true true d = refl
swap_or false true false d = refl
swap_or false false c d = refl

any_or : {X : Type 0} (p q : X → Bool) (xs : List X) → list_any (λ x. p x || q x) xs ≡ (list_any p xs || list_any q xs)
any_or p q [] = refl
any_or p q (x ∷ xs) = ap (λ t. (p x || q x) || t) (any_or p q xs) ∙ swap_or (p x) (q x) (list_any p xs) (list_any q xs)

and_or : (t a b : Bool) → (t && (a || b)) ≡ (t && a || t && b)
and_or true a b = refl
and_or false a b = refl

and_false : (t : Bool) → (t && false) ≡ false
and_false true = refl
and_false false = refl

any_false : {X : Type 0} (xs : List X) → list_any (λ x. false) xs ≡ false
any_false [] = refl
any_false (x ∷ xs) = any_false xs

any_filter : {X : Type 0} (t p : X → Bool) (xs : List X) → list_any t (filter p xs) ≡ list_any (λ x. t x && p x) xs
any_filter t p [] = refl
any_filter {X} t p (x ∷ xs) =
    elim (cases_Bool (p x)) [
      | inl e ↦ rw (e, any_filter t p xs) (elim (t x) as (λ b. (b || list_any (λ y. t y && p y) xs) ≡ (b && true || list_any (λ y. t y && p y) xs)) [ true ↦ refl | false ↦ refl ])
      | inr e ↦ rw (e, any_filter t p xs, and_false (t x)) refl
    ]

-- ---- one square that passes
picks : (t : ℕ → Bool) (x a : ℕ) (b : Bool) → (x == a) ≡ b → (t a && b) ≡ (t x && b)
picks t x a true e = ap (λ s. t s && true) (sym (eqb-true x a e))
picks t x a false e = and_false (t a) ∙ sym (and_false (t x))

any_and_const : (u : Bool) (p : ℕ → Bool) (xs : List ℕ) → list_any (λ a. u && p a) xs ≡ (u && list_any p xs)
any_and_const true p xs = refl
any_and_const false p xs = any_false xs

one_is_there : (x : ℕ) → x < 64 → list_any (λ a. x == a) squares ≡ true
unfolding squares
one_is_there x h = at_square (λ q. list_any (λ a. q == a) squares) (λ q. true) refl x h

pub any_pick : (t : ℕ → Bool) (x : ℕ) → x < 64 → list_any (λ a. t a && x == a) squares ≡ t x
any_pick t x h =
    any_same (λ a. t a && x == a) (λ a. t x && x == a) (λ a. picks t x a (x == a) refl) squares
    ∙ any_and_const (t x) (λ a. x == a) squares
    ∙ ap (λ b. t x && b) (one_is_there x h)
    ∙ elim (t x) as (λ b. (b && true) ≡ b) [ true ↦ refl | false ↦ refl ]

-- squares of a list that pass, as squares of the board
any_in_list : (t : ℕ → Bool) (xs : List ℕ) → All (λ x. x < 64) xs → list_any (λ a. t a && contains xs a) squares ≡ list_any t xs
any_in_list t [] h = any_same (λ a. t a && false) (λ a. false) (λ a. and_false (t a)) squares ∙ any_false squares
any_in_list t (x ∷ xs) h =
    any_same (λ a. t a && (x == a || contains xs a)) (λ a. t a && x == a || t a && contains xs a) (λ a. and_or (t a) (x == a) (contains xs a)) squares
    ∙ any_or (λ a. t a && x == a) (λ a. t a && contains xs a) squares
    ∙ ap₂ (λ b c. b || c) (any_pick t x (All-head (λ y. y < 64) x xs h)) (any_in_list t xs (All-tail (λ y. y < 64) x xs h))

any_in_lists : {X : Type 0} (t : ℕ → Bool) (f : X → List ℕ) (cs : List X) → ((c : X) → All (λ x. x < 64) (f c))
    → list_any (λ a. t a && list_any (λ c. contains (f c) a) cs) squares ≡ list_any (λ c. list_any t (f c)) cs
any_in_lists t f [] h = any_same (λ a. t a && false) (λ a. false) (λ a. and_false (t a)) squares ∙ any_false squares
any_in_lists t f (c ∷ cs) h =
    any_same (λ a. t a && (contains (f c) a || list_any (λ d. contains (f d) a) cs)) (λ a. t a && contains (f c) a || t a && list_any (λ d. contains (f d) a) cs)
    (λ a. and_or (t a) (contains (f c) a) (list_any (λ d. contains (f d) a) cs)) squares
    ∙ any_or (λ a. t a && contains (f c) a) (λ a. t a && list_any (λ d. contains (f d) a) cs) squares
    ∙ ap₂ (λ b d. b || d) (any_in_list t (f c) (h c)) (any_in_lists t f cs h)

-- ---- the first man along a ray
seen_board : (occupied : ℕ → Bool) (xs : List ℕ) → All (λ x. x < 64) xs → All (λ x. x < 64) (seen occupied xs)
seen_board occupied [] h = h
seen_board occupied (x ∷ xs) h =
    let rest = seen_board occupied xs (All-tail (λ y. y < 64) x xs h) in
    let first = All-head (λ y. y < 64) x xs h in
    elim (occupied x) as (λ b. All (λ y. y < 64) (x ∷ cond b [] (seen occupied xs))) [
      | true ↦ All-cons (λ y. y < 64) x [] first (All-nil (λ y. y < 64))
      | false ↦ All-cons (λ y. y < 64) x (seen occupied xs) first rest
    ]

-- a property of no empty square is false of a square without a man
kind_free : (kind : Man → Bool) → kind Empty ≡ false → (m : Man) → not (same_man m Empty) ≡ false → kind m ≡ false
kind_free kind e Empty h = e
kind_free kind e K h = absurd (cc)
kind_free kind e Q h = absurd (cc)
kind_free kind e R h = absurd (cc)
kind_free kind e B h = absurd (cc)
kind_free kind e N h = absurd (cc)
kind_free kind e P h = absurd (cc)
kind_free kind e BlackK h = absurd (cc)
kind_free kind e BlackQ h = absurd (cc)
kind_free kind e BlackR h = absurd (cc)
kind_free kind e BlackB h = absurd (cc)
kind_free kind e BlackN h = absurd (cc)
kind_free kind e BlackP h = absurd (cc)

first_decides : (kind : Man → Bool) (men : List Man) (xs : List ℕ) → kind Empty ≡ false
    → list_any (λ x. kind (man_at men x)) (seen (is_occupied men) xs) ≡ kind (first_man men xs)
first_decides kind men [] e = sym e
first_decides kind men (x ∷ xs) e =
    elim (cases_Bool (is_occupied men x)) [
      | inl f ↦ rw f (or-false (kind (man_at men x)))
      | inr f ↦ rw (f, kind_free kind e (man_at men x) f) (first_decides kind men xs e)
    ]

-- ---- a line is open both ways
all_reversed : (p : ℕ → Bool) (xs : List ℕ) → list_all p (reverse xs) ≡ list_all p xs
all_reversed p [] = refl
all_reversed p (x ∷ xs) =
    ap (list_all p) (reverse-append (x ∷ []) xs)
    ∙ list_all-append p (reverse xs) (x ∷ [])
    ∙ ap (λ b. b && (p x && true)) (all_reversed p xs)
    ∙ elim (p x) as (λ b. (list_all p xs && (b && true)) ≡ (b && list_all p xs)) [
      | true ↦ elim (list_all p xs) as (λ c. (c && true) ≡ c) [ true ↦ refl | false ↦ refl ]
      | false ↦ and_false (list_all p xs)
    ]

pub open_both_ways : (occupied : ℕ → Bool) (a b : ℕ) → b < 64 → is_open occupied a b ≡ is_open occupied b a
open_both_ways occupied a b h =
    ap (list_all (λ q. not (occupied q))) (between_reversed b a h) ∙ all_reversed (λ q. not (occupied q)) (between_squares b a)

eqb_back : (m n : ℕ) → (m == n) ≡ (n == m)
eqb_back m n = grind (arith, nat_tests)

pub orthogonal_both_ways : (a b : ℕ) → is_orthogonal a b ≡ is_orthogonal b a
orthogonal_both_ways a b =
    ap₂ (λ x y. not x && y) (eqb_back a b)
    (ap₂ (λ x y. x || y) (eqb_back (file_of a) (file_of b)) (eqb_back (rank_of a) (rank_of b)))

pub diagonal_both_ways : (a b : ℕ) → is_diagonal a b ≡ is_diagonal b a
diagonal_both_ways a b =
    ap₂ (λ x y. not x && y) (eqb_back a b)
    (ap₂ (λ x y. x || y) (eqb_back (rising_of a) (rising_of b)) (eqb_back (falling_of a) (falling_of b)))

-- ---- each way to attack
along : (kind : Man → Bool) (men : List Man) (directions : List Compass) (s : ℕ) → kind Empty ≡ false
    → list_any (λ a. kind (man_at men a) && sees directions (is_occupied men) s a) squares ≡ first_is kind men directions s
along kind men directions s e =
    let ray = λ (c : Compass). ray_from (files_of c) (ranks_of c) s in
    any_in_lists (λ a. kind (man_at men a)) (λ c. seen (is_occupied men) (ray c)) directions
    (λ c. seen_board (is_occupied men) (ray c) (ray_board (files_of c) (ranks_of c) s))
    ∙ any_same (λ c. list_any (λ a. kind (man_at men a)) (seen (is_occupied men) (ray c))) (λ c. kind (first_man men (ray c)))
    (λ c. first_decides kind men (ray c) e) directions

no_straight : (by : Side) → is_orthogonal_slider by Empty ≡ false
no_straight White = refl
no_straight Black = refl

no_slanted : (by : Side) → is_diagonal_slider by Empty ≡ false
no_slanted White = refl
no_slanted Black = refl

straight_attacks : (men : List Man) (by : Side) (s : ℕ) → s < 64
    → list_any (λ a. is_orthogonal_slider by (man_at men a) && (is_orthogonal a s && is_open (is_occupied men) a s)) squares
    ≡ first_is (is_orthogonal_slider by) men orthogonals s
straight_attacks men by s h =
    let occupied = is_occupied men in
    any_same_on _ (λ a. is_orthogonal_slider by (man_at men a) && sees orthogonals occupied s a) squares
    (All-weaker (λ a. a < 64) _ (λ a low. ap (λ t. is_orthogonal_slider by (man_at men a) && t)
    (ap₂ (λ x y. x && y) (orthogonal_both_ways a s) (open_both_ways occupied a s h) ∙ sym (sees_orthogonals occupied s a h low))) squares squares_board)
    ∙ along (is_orthogonal_slider by) men orthogonals s (no_straight by)

slanted_attacks : (men : List Man) (by : Side) (s : ℕ) → s < 64
    → list_any (λ a. is_diagonal_slider by (man_at men a) && (is_diagonal a s && is_open (is_occupied men) a s)) squares
    ≡ first_is (is_diagonal_slider by) men diagonals s
slanted_attacks men by s h =
    let occupied = is_occupied men in
    any_same_on _ (λ a. is_diagonal_slider by (man_at men a) && sees diagonals occupied s a) squares
    (All-weaker (λ a. a < 64) _ (λ a low. ap (λ t. is_diagonal_slider by (man_at men a) && t)
    (ap₂ (λ x y. x && y) (diagonal_both_ways a s) (open_both_ways occupied a s h) ∙ sym (sees_diagonals occupied s a h low))) squares squares_board)
    ∙ along (is_diagonal_slider by) men diagonals s (no_slanted by)

any_kept : (men : List Man) (man : Man) (goals : List (Option ℕ))
    → list_any (λ a. stands men a man) (kept_goals goals) ≡ list_any (holds men man) goals
any_kept men man [] = refl
any_kept men man (None ∷ goals) = any_kept men man goals
any_kept men man (Some x ∷ goals) = ap (λ t. stands men x man || t) (any_kept men man goals)

by_steps : (men : List Man) (man : Man) (test : ℕ → Bool) (goals : List (Option ℕ)) → filter test squares ≡ kept_goals goals
    → list_any (λ a. stands men a man && test a) squares ≡ list_any (holds men man) goals
by_steps men man test goals e =
    sym (any_filter (λ a. stands men a man) test squares)
    ∙ ap (list_any (λ a. stands men a man)) e
    ∙ any_kept men man goals

knight_attacks : (men : List Man) (man : Man) (s : ℕ) → s < 64
    → list_any (λ a. stands men a man && is_knight_step a s) squares ≡ list_any (holds men man) (knight_goals s)
unfolding knight_squares
knight_attacks men man s h =
    any_same _ (λ a. stands men a man && is_knight_step s a) (λ a. ap (λ t. stands men a man && t) (knight_steps_back a s)) squares
    ∙ by_steps men man (is_knight_step s) (knight_goals s) (sym (knight_goals_kept s h))

king_attacks : (men : List Man) (man : Man) (s : ℕ) → s < 64
    → list_any (λ a. stands men a man && is_king_step a s) squares ≡ list_any (holds men man) (king_goals s)
unfolding king_squares
king_attacks men man s h =
    any_same _ (λ a. stands men a man && is_king_step s a) (λ a. ap (λ t. stands men a man && t) (king_steps_back a s)) squares
    ∙ by_steps men man (is_king_step s) (king_goals s) (sym (king_goals_kept s h))

origins_table : (by : Side) → map (λ s. filter (λ a. is_pawn_attack by a s) squares) squares ≡ map (λ s. kept_goals (pawn_origins by s)) squares
unfolding squares
origins_table White = refl
origins_table Black = refl

pawn_attacks : (men : List Man) (by : Side) (man : Man) (s : ℕ) → s < 64
    → list_any (λ a. stands men a man && is_pawn_attack by a s) squares ≡ list_any (holds men man) (pawn_origins by s)
pawn_attacks men by man s h =
    by_steps men man (λ a. is_pawn_attack by a s) (pawn_origins by s)
    (at_square (λ q. filter (λ a. is_pawn_attack by a q) squares) (λ q. kept_goals (pawn_origins by q)) (origins_table by) s h)

-- ---- the ways together
abbrev in_ways : Side → Man → (ℕ → Bool) → ℕ → ℕ → Bool
in_ways by m occupied a b =
    is_orthogonal_slider by m && (is_orthogonal a b && is_open occupied a b)
    || (is_diagonal_slider by m && (is_diagonal a b && is_open occupied a b)
    || (same_man m (knight_of by) && is_knight_step a b
    || (same_man m (pawn_of by) && is_pawn_attack by a b
    || same_man m (king_of by) && is_king_step a b)))

two_lines : (s t u : Bool) → ((s || t) && u) ≡ (s && u || (t && u || false))
two_lines true true true = refl
two_lines true true false = refl
two_lines true false true = refl
two_lines true false false = refl
two_lines false true true = refl
two_lines false true false = refl
two_lines false false u = refl

by_kind : (by : Side) (m : Man) (occupied : ℕ → Bool) (a b : ℕ) → (is_of_side by m && attacks_as m occupied a b) ≡ in_ways by m occupied a b
by_kind White K occupied a b = refl
by_kind White Q occupied a b = two_lines (is_orthogonal a b) (is_diagonal a b) (is_open occupied a b)
by_kind White R occupied a b = sym (or-false (is_orthogonal a b && is_open occupied a b))
by_kind White B occupied a b = sym (or-false (is_diagonal a b && is_open occupied a b))
by_kind White N occupied a b = sym (or-false (is_knight_step a b))
by_kind White P occupied a b = sym (or-false (is_pawn_attack White a b))
by_kind Black BlackK occupied a b = refl
by_kind Black BlackQ occupied a b = two_lines (is_orthogonal a b) (is_diagonal a b) (is_open occupied a b)
by_kind Black BlackR occupied a b = sym (or-false (is_orthogonal a b && is_open occupied a b))
by_kind Black BlackB occupied a b = sym (or-false (is_diagonal a b && is_open occupied a b))
by_kind Black BlackN occupied a b = sym (or-false (is_knight_step a b))
by_kind Black BlackP occupied a b = sym (or-false (is_pawn_attack Black a b))
by_kind White BlackK occupied a b = refl
by_kind White BlackQ occupied a b = refl
by_kind White BlackR occupied a b = refl
by_kind White BlackB occupied a b = refl
by_kind White BlackN occupied a b = refl
by_kind White BlackP occupied a b = refl
by_kind White Empty occupied a b = refl
by_kind Black K occupied a b = refl
by_kind Black Q occupied a b = refl
by_kind Black R occupied a b = refl
by_kind Black B occupied a b = refl
by_kind Black N occupied a b = refl
by_kind Black P occupied a b = refl
by_kind Black Empty occupied a b = refl

pub attacked_outward : (men : List Man) (by : Side) (s : ℕ) → s < 64 → is_attacked men by s ≡
    (first_is (is_orthogonal_slider by) men orthogonals s || (first_is (is_diagonal_slider by) men diagonals s
    || (list_any (holds men (knight_of by)) (knight_goals s) || (list_any (holds men (pawn_of by)) (pawn_origins by s)
    || list_any (holds men (king_of by)) (king_goals s)))))
unfolding is_attacked attacks
attacked_outward men by s h =
    let occupied = is_occupied men in
    let straight = λ (a : ℕ). is_orthogonal_slider by (man_at men a) && (is_orthogonal a s && is_open occupied a s) in
    let slanted = λ (a : ℕ). is_diagonal_slider by (man_at men a) && (is_diagonal a s && is_open occupied a s) in
    let knight = λ (a : ℕ). stands men a (knight_of by) && is_knight_step a s in
    let pawn = λ (a : ℕ). stands men a (pawn_of by) && is_pawn_attack by a s in
    let king = λ (a : ℕ). stands men a (king_of by) && is_king_step a s in
    any_same (attacker men by s) (λ a. straight a || (slanted a || (knight a || (pawn a || king a))))
    (λ a. by_kind by (man_at men a) occupied a s) squares
    ∙ any_or straight (λ a. slanted a || (knight a || (pawn a || king a))) squares
    ∙ ap₂ (λ x y. x || y) (straight_attacks men by s h) (any_or slanted (λ a. knight a || (pawn a || king a)) squares
    ∙ ap₂ (λ x y. x || y) (slanted_attacks men by s h) (any_or knight (λ a. pawn a || king a) squares
    ∙ ap₂ (λ x y. x || y) (knight_attacks men (knight_of by) s h) (any_or pawn king squares
    ∙ ap₂ (λ x y. x || y) (pawn_attacks men by (pawn_of by) s h) (king_attacks men (king_of by) s h))))

-- ---- the ways as sets that meet, seen from the attacked square
pawn_back : (side : Side) → map (λ a. map (is_pawn_attack side a) squares) squares ≡ map (λ a. map (λ b. is_pawn_attack (opponent side) b a) squares) squares
unfolding squares
pawn_back White = refl
pawn_back Black = refl

pub attacked_in_ways : (men : List Man) (by : Side) (s : ℕ) → s < 64 → is_attacked men by s ≡
    (some_man (λ a. is_orthogonal_slider by (man_at men a)) (λ a. is_orthogonal s a && is_open (is_occupied men) s a)
    || (some_man (λ a. is_diagonal_slider by (man_at men a)) (λ a. is_diagonal s a && is_open (is_occupied men) s a)
    || (some_man (λ a. stands men a (knight_of by)) (is_knight_step s)
    || (some_man (λ a. stands men a (pawn_of by)) (is_pawn_attack (opponent by) s)
    || some_man (λ a. stands men a (king_of by)) (is_king_step s)))))
unfolding is_attacked attacks
attacked_in_ways men by s h =
    let occupied = is_occupied men in
    let straight = λ (a : ℕ). is_orthogonal_slider by (man_at men a) && (is_orthogonal a s && is_open occupied a s) in
    let slanted = λ (a : ℕ). is_diagonal_slider by (man_at men a) && (is_diagonal a s && is_open occupied a s) in
    let knight = λ (a : ℕ). stands men a (knight_of by) && is_knight_step a s in
    let pawn = λ (a : ℕ). stands men a (pawn_of by) && is_pawn_attack by a s in
    let king = λ (a : ℕ). stands men a (king_of by) && is_king_step a s in
    any_same (attacker men by s) (λ a. straight a || (slanted a || (knight a || (pawn a || king a)))) (λ a. by_kind by (man_at men a) occupied a s) squares
    ∙ any_or straight (λ a. slanted a || (knight a || (pawn a || king a))) squares
    ∙ ap₂ (λ x y. x || y) (any_same straight _ (λ a. ap (λ t. is_orthogonal_slider by (man_at men a) && t) (ap₂ (λ x y. x && y) (orthogonal_both_ways a s) (open_both_ways occupied a s h))) squares)
    (any_or slanted (λ a. knight a || (pawn a || king a)) squares
    ∙ ap₂ (λ x y. x || y) (any_same slanted _ (λ a. ap (λ t. is_diagonal_slider by (man_at men a) && t) (ap₂ (λ x y. x && y) (diagonal_both_ways a s) (open_both_ways occupied a s h))) squares)
    (any_or knight (λ a. pawn a || king a) squares
    ∙ ap₂ (λ x y. x || y) (any_same knight _ (λ a. ap (λ t. stands men a (knight_of by) && t) (knight_steps_back a s)) squares)
    (any_or pawn king squares
    ∙ ap₂ (λ x y. x || y)
    (any_same_on pawn _ squares (All-weaker (λ a. a < 64) _
    (λ a low. ap (λ t. stands men a (pawn_of by) && t)
    (at_squares (is_pawn_attack by) (λ x y. is_pawn_attack (opponent by) y x) (pawn_back by) a s low h)) squares squares_board))
    (any_same king _ (λ a. ap (λ t. stands men a (king_of by) && t) (king_steps_back a s)) squares))))

-- no man attacks along lines if none is on the lines
less : (a b c : Bool) → (a && b) ≡ false → (a && (b && c)) ≡ false
less true true c e = absurd (cc)
less true false c e = refl
less false b c e = refl

any_less : (t u v : ℕ → Bool) (xs : List ℕ) → list_any (λ a. t a && u a) xs ≡ false → list_any (λ a. t a && (u a && v a)) xs ≡ false
any_less t u v [] e = refl
any_less t u v (x ∷ xs) e =
    let parts = or_parts (t x && u x) (list_any (λ a. t a && u a) xs) e in
    rw (less (t x) (u x) (v x) parts.0) (any_less t u v xs parts.1)

pub none_on_lines : (t u v : ℕ → Bool) → some_man t u ≡ false → some_man t (λ a. u a && v a) ≡ false
none_on_lines t u v e = any_less t u v squares e

-- the kinds of men that attack along lines
straight_kinds : (by : Side) (m : Man) → (same_man m (man_of by Queen) || same_man m (man_of by Rook)) ≡ is_orthogonal_slider by m
straight_kinds White K = refl
straight_kinds White Q = refl
straight_kinds White R = refl
straight_kinds White B = refl
straight_kinds White N = refl
straight_kinds White P = refl
straight_kinds White BlackK = refl
straight_kinds White BlackQ = refl
straight_kinds White BlackR = refl
straight_kinds White BlackB = refl
straight_kinds White BlackN = refl
straight_kinds White BlackP = refl
straight_kinds White Empty = refl
straight_kinds Black K = refl
straight_kinds Black Q = refl
straight_kinds Black R = refl
straight_kinds Black B = refl
straight_kinds Black N = refl
straight_kinds Black P = refl
straight_kinds Black BlackK = refl
straight_kinds Black BlackQ = refl
straight_kinds Black BlackR = refl
straight_kinds Black BlackB = refl
straight_kinds Black BlackN = refl
straight_kinds Black BlackP = refl
straight_kinds Black Empty = refl

slanted_kinds : (by : Side) (m : Man) → (same_man m (man_of by Queen) || same_man m (man_of by Bishop)) ≡ is_diagonal_slider by m
slanted_kinds White K = refl
slanted_kinds White Q = refl
slanted_kinds White R = refl
slanted_kinds White B = refl
slanted_kinds White N = refl
slanted_kinds White P = refl
slanted_kinds White BlackK = refl
slanted_kinds White BlackQ = refl
slanted_kinds White BlackR = refl
slanted_kinds White BlackB = refl
slanted_kinds White BlackN = refl
slanted_kinds White BlackP = refl
slanted_kinds White Empty = refl
slanted_kinds Black K = refl
slanted_kinds Black Q = refl
slanted_kinds Black R = refl
slanted_kinds Black B = refl
slanted_kinds Black N = refl
slanted_kinds Black P = refl
slanted_kinds Black BlackK = refl
slanted_kinds Black BlackQ = refl
slanted_kinds Black BlackR = refl
slanted_kinds Black BlackB = refl
slanted_kinds Black BlackN = refl
slanted_kinds Black BlackP = refl
slanted_kinds Black Empty = refl

pub straight_found : (men : List Man) (by : Side) (a b : ℕ) → IsBitboard a (λ k. stands men k (man_of by Queen)) → IsBitboard b (λ k. stands men k (man_of by Rook))
    → IsBitboard (bit_or a b) (λ k. is_orthogonal_slider by (man_at men k))
straight_found men by a b m n = marks_same _ _ _ (λ k h. straight_kinds by (man_at men k)) (marks_or a b _ _ m n)

pub slanted_found : (men : List Man) (by : Side) (a b : ℕ) → IsBitboard a (λ k. stands men k (man_of by Queen)) → IsBitboard b (λ k. stands men k (man_of by Bishop))
    → IsBitboard (bit_or a b) (λ k. is_diagonal_slider by (man_at men k))
slanted_found men by a b m n = marks_same _ _ _ (λ k h. slanted_kinds by (man_at men k)) (marks_or a b _ _ m n)

twice_not : (b : Bool) → not (not b) ≡ b
twice_not true = refl
twice_not false = refl

pub empty_seen : (men : List Man) (empty : ℕ) → IsBitboard empty (λ k. stands men k Empty) → IsBitboard empty (λ k. not (is_occupied men k))
empty_seen men empty m = marks_same _ _ _ (λ k h. sym (twice_not (stands men k Empty))) m
