-- The squares between two squares, counted by steps.
use Rattle.std.proofs.Common.{◌≡◌, ◌<◌, ℕ, Bool, true, false, ◌&&◌, ◌||◌, ◌==◌, ltb, cond, List, [], ◌∷◌, ◌++◌, map, reverse, length, get_or, ◌-◌, refl, sym, ap, ap₂, ◌∙◌, inl, inr, arith}
use Rattle.std.specs.List.{All, filter}
use Rattle.std.proofs.lemmas.Bool.Decides.{nat_tests}
use Rattle.std.proofs.lemmas.Bool.{cases_order, cond_below, cond_above}
use Rattle.std.proofs.lemmas.List.{reverse-append, reverse-reverse, length-reverse, get_or-reverse}
use Rattle.std.proofs.lemmas.List.Elements.{filter-append, filter_agree, All-filter}
use Rattle.std.proofs.Math.Bool.{or_comm}
use Rattle.cq_geometry.specs.Squares.{file_of, rank_of, squares}
use Rattle.cq_geometry.specs.Steps.{distance}
use Rattle.cq_geometry.specs.Directions.{direction_to}
use Rattle.cq_geometry.specs.Lines.{between_squares, lies_between, all_same, is_inside, rising_of, falling_of}
use Rattle.cq_geometry.specs.Internal.Expansions.{steps_between}
use Rattle.cq_geometry.proofs.Board.{squares_board}
use Rattle.cq_geometry.proofs.Tables.{at_square, at_squares}

filter_one : {X : Type 0} (p : X → Bool) (x : X) → filter p (x ∷ []) ≡ reverse (filter p (x ∷ []))
filter_one p x = elim (p x) as (λ b. cond b (x ∷ []) [] ≡ reverse (cond b (x ∷ []) [])) [ true ↦ refl | false ↦ refl ]

filter_reverse : {X : Type 0} (p : X → Bool) (xs : List X) → filter p (reverse xs) ≡ reverse (filter p xs)
filter_reverse p [] = refl
filter_reverse p (x ∷ xs) =
    ap (filter p) (reverse-append (x ∷ []) xs)
    ∙ filter-append p (reverse xs) (x ∷ [])
    ∙ ap (λ ys. ys ++ filter p (x ∷ [])) (filter_reverse p xs)
    ∙ ap (λ ys. reverse (filter p xs) ++ ys) (filter_one p x)
    ∙ sym (reverse-append (filter p (x ∷ [])) (filter p xs))
    ∙ ap reverse (sym (filter-append p (x ∷ []) xs))

-- a line number that two squares share, for instance their file
abbrev in_common : (ℕ → ℕ) → ℕ → ℕ → Bool
in_common line a b = line a == line b

-- two squares are on one file, rank or diagonal
abbrev aligned : ℕ → ℕ → Bool
aligned a b = in_common file_of a b || in_common rank_of a b || in_common rising_of a b || in_common falling_of a b

guarded : (f r u d w x y z inside : Bool)
    → (f && w || r && x || u && y || d && z) && inside
    ≡ (f || r || u || d) && ((f && w || r && x || u && y || d && z) && inside)
guarded true r u d w x y z inside = refl
guarded false true u d w x y z inside = refl
guarded false false true d w x y z inside = refl
guarded false false false true w x y z inside = refl
guarded false false false false w x y z inside = refl

-- a square between two squares is on one line with the first
between_aligned : (a b square : ℕ) → lies_between a b square ≡ aligned a square && lies_between a b square
between_aligned a b square =
    guarded (in_common file_of a square) (in_common rank_of a square) (in_common rising_of a square) (in_common falling_of a square)
    (in_common file_of square b) (in_common rank_of square b) (in_common rising_of square b) (in_common falling_of square b)
    (is_inside (file_of a) (file_of square) (file_of b) || is_inside (rank_of a) (rank_of square) (rank_of b))

through : (m n k : ℕ) → (m == n && n == k) ≡ (m == k) && (m == n && n == k)
through m n k = grind (arith, nat_tests)

-- there is a square between two squares only where they are on one line
ends_aligned : (a b square : ℕ) → lies_between a b square ≡ aligned a b && lies_between a b square
ends_aligned a b square =
    let inside = is_inside (file_of a) (file_of square) (file_of b) || is_inside (rank_of a) (rank_of square) (rank_of b) in
    let file = through (file_of a) (file_of square) (file_of b) in
    let rank = through (rank_of a) (rank_of square) (rank_of b) in
    let up = through (rising_of a) (rising_of square) (rising_of b) in
    let down = through (falling_of a) (falling_of square) (falling_of b) in
    let joined = ap₂ (λ x y. x || y) (ap₂ (λ x y. x || y) (ap₂ (λ x y. x || y) file rank) up) down in
    ap (λ x. x && inside) joined
    ∙ guarded (in_common file_of a b) (in_common rank_of a b) (in_common rising_of a b) (in_common falling_of a b)
    (all_same file_of a square b) (all_same rank_of a square b) (all_same rising_of a square b) (all_same falling_of a square b) inside
    ∙ ap (λ x. aligned a b && (x && inside)) (sym joined)

filter_both : {X : Type 0} (p q : X → Bool) (xs : List X) → filter (λ x. q x && p x) xs ≡ filter p (filter q xs)
filter_both p q [] = refl
filter_both p q (x ∷ xs) =
    elim (q x) as (λ b. cond (b && p x) (x ∷ filter (λ y. q y && p y) xs) (filter (λ y. q y && p y) xs) ≡ filter p (cond b (x ∷ filter q xs) (filter q xs))) [
      | true ↦ ap (λ ys. cond (p x) (x ∷ ys) ys) (filter_both p q xs)
      | false ↦ filter_both p q xs
    ]

filter_nothing : {X : Type 0} (xs : List X) → filter (λ _. false) xs ≡ []
filter_nothing [] = refl
filter_nothing (x ∷ xs) = filter_nothing xs

-- the squares on one line with a square, and those of them that are between it and another
near : ℕ → List ℕ
near a = filter (aligned a) squares

among : List ℕ → ℕ → ℕ → List ℕ
among candidates a b =
    cond (aligned a b) (filter (lies_between a b) (cond (ltb a b) candidates (reverse candidates))) []

between_among : (a b : ℕ) → between_squares a b ≡ among (near a) a b
unfolding between_squares near among
between_among a b =
    let ordered = cond (ltb a b) (near a) (reverse (near a)) in
    filter_agree (lies_between a b) (λ s. aligned a s && lies_between a b s) (between_aligned a b) (cond (ltb a b) squares (reverse squares))
    ∙ filter_both (lies_between a b) (aligned a) (cond (ltb a b) squares (reverse squares))
    ∙ ap (filter (lies_between a b))
    (elim (ltb a b) as (λ t. filter (aligned a) (cond t squares (reverse squares)) ≡ cond t (near a) (reverse (near a))) [
      | true ↦ refl
      | false ↦ filter_reverse (aligned a) squares
    ])
    ∙ filter_agree (lies_between a b) (λ s. aligned a b && lies_between a b s) (ends_aligned a b) ordered
    ∙ elim (aligned a b) as (λ t. filter (λ s. t && lies_between a b s) ordered ≡ cond t (filter (lies_between a b) ordered) []) [
      | true ↦ refl
      | false ↦ filter_nothing ordered
    ]

between_table : map (λ a. map (among (near a) a) squares) squares
    ≡ map (λ a. map (λ b. steps_between a (direction_to a b) (distance a b)) squares) squares
unfolding squares near among direction_to
between_table = refl

pub between_by_steps : (a b : ℕ) → a < 64 → b < 64 → steps_between a (direction_to a b) (distance a b) ≡ between_squares a b
between_by_steps a b h k =
    sym (between_among a b
    ∙ at_squares (λ p. among (near p) p) (λ p q. steps_between p (direction_to p q) (distance p q)) between_table a b h k)

same_both_ways : (m n k : ℕ) → (m == n && n == k) ≡ (k == n && n == m)
same_both_ways m n k = grind (arith, nat_tests)

inside_both_ways : (m n k : ℕ) → is_inside m n k ≡ is_inside k n m
inside_both_ways m n k = or_comm (ltb m n && ltb n k) (ltb k n && ltb n m)

between_both_ways : (a b square : ℕ) → lies_between a b square ≡ lies_between b a square
between_both_ways a b square =
    let file = same_both_ways (file_of a) (file_of square) (file_of b) in
    let rank = same_both_ways (rank_of a) (rank_of square) (rank_of b) in
    let up = same_both_ways (rising_of a) (rising_of square) (rising_of b) in
    let down = same_both_ways (falling_of a) (falling_of square) (falling_of b) in
    let in_files = inside_both_ways (file_of a) (file_of square) (file_of b) in
    let in_ranks = inside_both_ways (rank_of a) (rank_of square) (rank_of b) in
    ap₂ (λ x y. x && y) (ap₂ (λ x y. x || y) (ap₂ (λ x y. x || y) (ap₂ (λ x y. x || y) file rank) up) down)
    (ap₂ (λ x y. x || y) in_files in_ranks)

itself_table : map (λ a. between_squares a a) squares ≡ map (λ a. []) squares
unfolding squares between_squares
itself_table = refl

between_itself : (a : ℕ) → a < 64 → between_squares a a ≡ []
between_itself a h = at_square (λ q. between_squares q q) (λ _. []) itself_table a h

rising : (a b : ℕ) → a < b → between_squares a b ≡ filter (lies_between a b) squares
unfolding between_squares
rising a b h = ap (filter (lies_between a b)) (sym (cond_below a b squares (reverse squares) h))

falling : (a b : ℕ) → b < a → between_squares a b ≡ filter (lies_between a b) (reverse squares)
unfolding between_squares
falling a b h =
    ap (filter (lies_between a b)) (sym (cond_above a b squares (reverse squares) (reverse squares) (omega arith) refl))

-- the way back has the same squares in the other order
pub between_reversed : (a b : ℕ) → a < 64 → between_squares b a ≡ reverse (between_squares a b)
between_reversed a b h =
    elim (cases_order a b) [
      | inl e ↦
          ap (λ x. between_squares x a) (sym e)
          ∙ between_itself a h
          ∙ ap reverse (sym (between_itself a h))
          ∙ ap (λ x. reverse (between_squares a x)) e
      | inr (inl below) ↦
          falling b a below
          ∙ filter_agree (lies_between b a) (lies_between a b) (between_both_ways b a) (reverse squares)
          ∙ filter_reverse (lies_between a b) squares
          ∙ ap reverse (sym (rising a b below))
      | inr (inr above) ↦
          rising b a above
          ∙ filter_agree (lies_between b a) (lies_between a b) (between_both_ways b a) squares
          ∙ sym (reverse-reverse (filter (lies_between a b) squares))
          ∙ ap reverse (sym (filter_reverse (lies_between a b) squares))
          ∙ ap reverse (sym (falling a b above))
    ]

reversed_board : All (λ s. s < 64) (reverse squares)
reversed_board k d h =
    let lower : k < length squares = omega (arith, length-reverse squares) in
    let other : length squares - 1 - k < length squares = omega arith in
    let e : get_or (reverse squares) k d ≡ get_or squares (length squares - 1 - k) d = get_or-reverse squares k d lower in
    let below : get_or squares (length squares - 1 - k) d < 64 = squares_board (length squares - 1 - k) d other in
    omega arith

pub between_board : (a b : ℕ) → All (λ s. s < 64) (between_squares a b)
unfolding between_squares
between_board a b =
    elim (ltb a b) as (λ t. All (λ s. s < 64) (filter (lies_between a b) (cond t squares (reverse squares)))) [
      | true ↦ All-filter (lies_between a b) (λ s. s < 64) squares squares_board
      | false ↦ All-filter (lies_between a b) (λ s. s < 64) (reverse squares) reversed_board
    ]
