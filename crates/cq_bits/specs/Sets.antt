-- Attacks of the men of a set of squares, the men that attack a set, and the squares between two sets.
use Rattle.std.specs.Prelude.{◌≡◌, ℕ, ◌+◌, ◌<◌, Bool, true, false, ◌&&◌, ◌||◌, ◌==◌, List}
use Rattle.cq_geometry.specs.Lines.{lies_between}
use Rattle.cq_geometry.specs.Squares.{rank_of}
use Rattle.cq_geometry.specs.Steps.{files_apart, is_king_step, is_knight_step}
use Rattle.cq_position.specs.Attacks.{attacks}
use Rattle.cq_position.specs.Board.{man_at}
use Rattle.cq_position.specs.declared.men.Man.{Man}
use Rattle.cq_position.specs.declared.men.Man.TheVariants.{K, Q, R, B, N, P, BlackK, BlackQ, BlackR, BlackB, BlackN, BlackP}
use Rattle.cq_position.specs.Men.{same_man}
pub use Rattle.cq_square_sets.specs.Sets.{Has, has, IsSetOf, IsStepped, IsSlid, reaches}

-- true of a rook and a queen, which attack along their files and ranks (FIDE Laws of Chess, articles 3.3 and 3.4)
abbrev pub goes_straight : Man → Bool
goes_straight Q = true
goes_straight R = true
goes_straight BlackQ = true
goes_straight BlackR = true
goes_straight man = false

-- true of a bishop and a queen, which attack along their diagonals (articles 3.2 and 3.4)
abbrev pub goes_diagonally : Man → Bool
goes_diagonally Q = true
goes_diagonally B = true
goes_diagonally BlackQ = true
goes_diagonally BlackB = true
goes_diagonally man = false

-- the square is in the set and has a man of this kind
abbrev pub IsChosen : (Man → Bool) → List Man → ℕ → ℕ → Type 0
IsChosen kind men set square = Has set square × (kind (man_at men square) ≡ true)

abbrev pub slides : Man → Bool
slides man = goes_straight man || goes_diagonally man

-- the square is in the set, has no rook, bishop or queen, and its man attacks the other square
abbrev pub IsLeap : List Man → ℕ → ℕ → ℕ → Type 0
IsLeap men set from to = Has set from × (slides (man_at men from) ≡ false) × (attacks men from to ≡ true)

-- the man on some square of the set attacks this one
abbrev pub IsAttacked : List Man → ℕ → ℕ → Type 0
IsAttacked men set to = (from : ℕ) × (from < 64) × Has set from × (attacks men from to ≡ true)

-- the man on this square attacks some square of the set
abbrev pub IsAttacker : List Man → ℕ → ℕ → Type 0
IsAttacker men set from = (to : ℕ) × (to < 64) × Has set to × (attacks men from to ≡ true)

-- true if this man is a king, a knight or a pawn, and attacks the first square from the second
abbrev pub leaps_to : Man → ℕ → ℕ → Bool
leaps_to man to from =
    (((same_man man N || same_man man BlackN) && is_knight_step to from
    || (same_man man K || same_man man BlackK) && is_king_step to from)
    || same_man man P && ((rank_of to == rank_of from + 1) && (files_apart to from == 1)))
    || same_man man BlackP && ((rank_of from == rank_of to + 1) && (files_apart to from == 1))

-- this square is strictly between the first one and some square of the set, on one file, rank or diagonal
abbrev pub IsBetweenOne : ℕ → ℕ → ℕ → Type 0
IsBetweenOne b from square = (to : ℕ) × (to < 64) × Has b to × (lies_between from to square ≡ true)

-- this square is strictly between some square of the first set and some square of the second
abbrev pub IsBetween : ℕ → ℕ → ℕ → Type 0
IsBetween a b square = (from : ℕ) × (from < 64) × Has a from × IsBetweenOne b from square
