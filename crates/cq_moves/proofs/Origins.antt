-- The origins of a man's moves to a square, seen from that square.
use Rattle.std.proofs.Common.{◌≡◌, ℕ, ◌+◌, ◌<◌, max, Bool, true, false, ◌&&◌, ◌||◌, ◌==◌, map, refl, inl, inr, sym, ap, ap₂, ◌∙◌, Some, arith}
use Rattle.std.proofs.lemmas.Bool.{or_cases, or_left, or_right, eqb-true, eq-eqb}
use Rattle.cq_geometry.specs.Squares.{squares, file_of, rank_of}
use Rattle.cq_geometry.specs.Steps.{apart, files_apart, ranks_apart, is_king_step, is_knight_step}
use Rattle.cq_geometry.proofs.Tables.{at_squares}
use Rattle.cq_position.specs.declared.men.Man.{Man}
use Rattle.cq_position.specs.declared.men.Piece.{Piece}
use Rattle.cq_position.specs.declared.men.Piece.TheVariants.{King, Queen, Rook, Bishop, Knight, Pawn}
use Rattle.cq_position.specs.declared.men.Side.{Side}
use Rattle.cq_position.specs.declared.men.Side.TheVariants.{White, Black}
use Rattle.cq_position.specs.Men.{is_of_side, man_of, opponent}
use Rattle.cq_position.specs.Board.{Board, man_at, stands, king_home}
use Rattle.cq_position.specs.Attacks.{attacks, attacks_as, is_occupied, is_pawn_attack, is_goal, piece_attacks}
use Rattle.cq_position.specs.Legal.{goes_as, reaches, castles, castling_goal, pawn_moves}
use Rattle.cq_position.proofs.Attackers.{open_both_ways, orthogonal_both_ways, diagonal_both_ways}
use Rattle.cq_moves.specs.Candidates.{is_ahead, may_come}
use Rattle.cq_moves.specs.Internal.Mover.{is_free}
use Rattle.cq_moves.proofs.Boards.{same_man-is}
use Rattle.cq_moves.proofs.Targets.{own_reaches}
use Rattle.cq_moves.proofs.Candidates.{pawn_goes, four_parts, first_of}

-- steps lead back
apart_back : (m n : ℕ) → apart m n ≡ apart n m
apart_back m n = omega arith

files_back : (a b : ℕ) → files_apart a b ≡ files_apart b a
files_back a b = apart_back (file_of a) (file_of b)

ranks_back : (a b : ℕ) → ranks_apart a b ≡ ranks_apart b a
ranks_back a b = apart_back (rank_of a) (rank_of b)

king_back : (a b : ℕ) → is_king_step a b ≡ is_king_step b a
king_back a b = ap₂ (λ files ranks. max files ranks == 1) (files_back a b) (ranks_back a b)

knight_back : (a b : ℕ) → is_knight_step a b ≡ is_knight_step b a
knight_back a b =
    ap₂ (λ files ranks. files == 1 && ranks == 2 || files == 2 && ranks == 1) (files_back a b) (ranks_back a b)

pawn_back : (side : Side) (a b : ℕ) → is_pawn_attack side a b ≡ is_pawn_attack (opponent side) b a
pawn_back White a b = ap (λ files. (rank_of b == rank_of a + 1) && (files == 1)) (files_back a b)
pawn_back Black a b = ap (λ files. (rank_of a == rank_of b + 1) && (files == 1)) (files_back a b)

ahead_table : map (λ a. map (is_ahead White a) squares) squares ≡ map (λ a. map (λ b. is_ahead Black b a) squares) squares
unfolding squares
ahead_table = refl

ahead_back : (side : Side) (a b : ℕ) → a < 64 → b < 64 → is_ahead side a b ≡ is_ahead (opponent side) b a
ahead_back White a b h k = at_squares (is_ahead White) (λ x y. is_ahead Black y x) ahead_table a b h k
ahead_back Black a b h k = sym (at_squares (is_ahead White) (λ x y. is_ahead Black y x) ahead_table b a k h)

abbrev back : ℕ → (ℕ → ℕ → Bool) → ℕ → Bool
back a f b = f b a

-- all pieces but pawns attack both ways
both_ways : (side : Side) (piece : Piece) (occupied : ℕ → Bool) (a b : ℕ) → a < 64 → b < 64 → (piece ≡ Pawn → ⊥)
    → piece_attacks side piece occupied a b ≡ piece_attacks side piece occupied b a
both_ways side King occupied a b h k other = king_back a b
both_ways side Knight occupied a b h k other = knight_back a b
both_ways side Bishop occupied a b h k other = ap₂ (λ x y. x && y) (diagonal_both_ways a b) (open_both_ways occupied a b k)
both_ways side Rook occupied a b h k other = ap₂ (λ x y. x && y) (orthogonal_both_ways a b) (open_both_ways occupied a b k)
both_ways side Queen occupied a b h k other =
    ap₂ (λ x y. x && y) (ap₂ (λ x y. x || y) (orthogonal_both_ways a b) (diagonal_both_ways a b)) (open_both_ways occupied a b k)
both_ways side Pawn occupied a b h k other = absurd (other refl)

-- the origins of a king's moves: the squares that it attacks from the goal, and its home, from which it castles
king_comes : (p : Board) (a b : ℕ) → (attacks p.men a b || castles p a b true || castles p a b false) ≡ true
    → (attacks p.men a b || is_goal (Some (king_home p.side)) a) ≡ true
king_comes p a b h =
    let from_home = λ (kingside : Bool) (e : castles p a b kingside ≡ true).
    or_right (attacks p.men a b) (is_goal (Some (king_home p.side)) a) (home kingside e) in
    elim (or_cases (attacks p.men a b || castles p a b true) (castles p a b false) h) [
      | inl most ↦ elim (or_cases (attacks p.men a b) (castles p a b true) most) [
        | inl e ↦ or_left (attacks p.men a b) (is_goal (Some (king_home p.side)) a) e
        | inr e ↦ from_home true e
      ]
      | inr e ↦ from_home false e
    ]
  where
    home : (kingside : Bool) → castles p a b kingside ≡ true → is_goal (Some (king_home p.side)) a ≡ true
    home kingside e =
        let two = first_of ((a == king_home p.side) && (b == castling_goal p.side kingside)) _ (first_of _ _ (first_of _ _ e)) in
        eq-eqb (king_home p.side) a (sym (eqb-true a (king_home p.side) (first_of (a == king_home p.side) _ two)))

module _ (p : Board) (a b : ℕ) (h : a < 64) (k : b < 64) where
  by_man : (m : Man) → man_at p.men a ≡ m → attacks_as m (is_occupied p.men) a b ≡ attacks p.men a b
  unfolding attacks
  by_man m e = ap (λ x. attacks_as x (is_occupied p.men) a b) (sym e)

  -- the man that stands there is seen from the goal exactly where it attacks it
  seen_as : (side : Side) (piece : Piece) → (piece ≡ Pawn → ⊥) → man_at p.men a ≡ man_of side piece
      → attacks_as (man_of side piece) (is_occupied p.men) b a ≡ attacks p.men a b
  seen_as White King other e = sym (both_ways White King (is_occupied p.men) a b h k other) ∙ by_man (man_of White King) e
  seen_as White Queen other e = sym (both_ways White Queen (is_occupied p.men) a b h k other) ∙ by_man (man_of White Queen) e
  seen_as White Rook other e = sym (both_ways White Rook (is_occupied p.men) a b h k other) ∙ by_man (man_of White Rook) e
  seen_as White Bishop other e = sym (both_ways White Bishop (is_occupied p.men) a b h k other) ∙ by_man (man_of White Bishop) e
  seen_as White Knight other e = sym (both_ways White Knight (is_occupied p.men) a b h k other) ∙ by_man (man_of White Knight) e
  seen_as White Pawn other e = absurd (other refl)
  seen_as Black King other e = sym (both_ways Black King (is_occupied p.men) a b h k other) ∙ by_man (man_of Black King) e
  seen_as Black Queen other e = sym (both_ways Black Queen (is_occupied p.men) a b h k other) ∙ by_man (man_of Black Queen) e
  seen_as Black Rook other e = sym (both_ways Black Rook (is_occupied p.men) a b h k other) ∙ by_man (man_of Black Rook) e
  seen_as Black Bishop other e = sym (both_ways Black Bishop (is_occupied p.men) a b h k other) ∙ by_man (man_of Black Bishop) e
  seen_as Black Knight other e = sym (both_ways Black Knight (is_occupied p.men) a b h k other) ∙ by_man (man_of Black Knight) e
  seen_as Black Pawn other e = absurd (other refl)

  known : (side : Side) (piece : Piece) → (piece ≡ Pawn → ⊥) → man_at p.men a ≡ man_of side piece → attacks p.men a b ≡ true
      → attacks_as (man_of side piece) (is_occupied p.men) b a ≡ true
  known side piece other e f = seen_as side piece other e ∙ f

  king_seen : (side : Side) → side ≡ p.side → man_at p.men a ≡ man_of side King → goes_as (man_of side King) p a b ≡ true
      → (attacks_as (man_of side King) (is_occupied p.men) b a || is_goal (Some (king_home side)) a) ≡ true
  king_seen side s e g =
      let all : (attacks p.men a b || castles p a b true || castles p a b false) ≡ true = king_goal side g in
      elim (or_cases (attacks p.men a b) (is_goal (Some (king_home p.side)) a) (king_comes p a b all)) [
        | inl f ↦ or_left (attacks_as (man_of side King) (is_occupied p.men) b a) (is_goal (Some (king_home side)) a) (known side King (λ x. absurd (cc)) e f)
        | inr f ↦ or_right (attacks_as (man_of side King) (is_occupied p.men) b a) (is_goal (Some (king_home side)) a) (ap (λ t. is_goal (Some (king_home t)) a) s ∙ f)
      ]
    where
      king_goal : (t : Side) → goes_as (man_of t King) p a b ≡ true → (attacks p.men a b || castles p a b true || castles p a b false) ≡ true
      king_goal White h = h
      king_goal Black h = h

  pawn_seen : (side : Side) → side ≡ p.side → pawn_moves p a b ≡ true
      → (attacks_as (man_of (opponent side) Pawn) (is_occupied p.men) b a || is_ahead (opponent side) b a) ≡ true
  pawn_seen White s g =
      ap₂ (λ x y. x || y) (sym (pawn_back White a b)) (sym (ahead_back White a b h k))
      ∙ ap (λ t. is_pawn_attack t a b || is_ahead t a b) s ∙ pawn_goes p a b h k g
  pawn_seen Black s g =
      ap₂ (λ x y. x || y) (sym (pawn_back Black a b)) (sym (ahead_back Black a b h k))
      ∙ ap (λ t. is_pawn_attack t a b || is_ahead t a b) s ∙ pawn_goes p a b h k g

  comes : (side : Side) (piece : Piece) → side ≡ p.side → man_at p.men a ≡ man_of side piece → goes_as (man_of side piece) p a b ≡ true
      → may_come side piece (is_occupied p.men) b a ≡ true
  comes side King s e g = king_seen side s e g
  comes White Pawn s e g = pawn_seen White s g
  comes Black Pawn s e g = pawn_seen Black s g
  comes White Queen s e g = known White Queen (λ x. absurd (cc)) e g
  comes White Rook s e g = known White Rook (λ x. absurd (cc)) e g
  comes White Bishop s e g = known White Bishop (λ x. absurd (cc)) e g
  comes White Knight s e g = known White Knight (λ x. absurd (cc)) e g
  comes Black Queen s e g = known Black Queen (λ x. absurd (cc)) e g
  comes Black Rook s e g = known Black Rook (λ x. absurd (cc)) e g
  comes Black Bishop s e g = known Black Bishop (λ x. absurd (cc)) e g
  comes Black Knight s e g = known Black Knight (λ x. absurd (cc)) e g

  pub reached_comes : (piece : Piece) → stands p.men a (man_of p.side piece) ≡ true → reaches p a b ≡ true → may_come p.side piece (is_occupied p.men) b a ≡ true
  unfolding reaches
  reached_comes piece st r =
      let e = same_man-is (man_at p.men a) (man_of p.side piece) st in
      let parts = four_parts (is_of_side p.side (man_at p.men a)) _ _ (goes_as (man_at p.men a) p a b) r in
      comes p.side piece refl e (ap (λ m. goes_as m p a b) (sym e) ∙ parts.1)

  -- a queen, rook, bishop or knight is among those that may come exactly where it attacks the goal
  pub seen_attacks : (piece : Piece) → (piece ≡ King → ⊥) → (piece ≡ Pawn → ⊥)
      → stands p.men a (man_of p.side piece) ≡ true
      → may_come p.side piece (is_occupied p.men) b a ≡ attacks p.men a b
  seen_attacks King king pawn st = absurd (king refl)
  seen_attacks Pawn king pawn st = absurd (pawn refl)
  seen_attacks Queen king pawn st = seen_as p.side Queen pawn (same_man-is (man_at p.men a) (man_of p.side Queen) st)
  seen_attacks Rook king pawn st = seen_as p.side Rook pawn (same_man-is (man_at p.men a) (man_of p.side Rook) st)
  seen_attacks Bishop king pawn st = seen_as p.side Bishop pawn (same_man-is (man_at p.men a) (man_of p.side Bishop) st)
  seen_attacks Knight king pawn st = seen_as p.side Knight pawn (same_man-is (man_at p.men a) (man_of p.side Knight) st)

-- the goals of a man of a piece, whatever its side
as_king : (p : Board) (a b : ℕ) (side : Side) → goes_as (man_of side King) p a b ≡ (attacks p.men a b || castles p a b true || castles p a b false)
as_king p a b White = refl
as_king p a b Black = refl

as_pawn : (p : Board) (a b : ℕ) (side : Side) → goes_as (man_of side Pawn) p a b ≡ pawn_moves p a b
as_pawn p a b White = refl
as_pawn p a b Black = refl

as_other : (p : Board) (a b : ℕ) (side : Side) (piece : Piece) → (piece ≡ King → ⊥) → (piece ≡ Pawn → ⊥) → goes_as (man_of side piece) p a b ≡ attacks p.men a b
as_other p a b side King king pawn = absurd (king refl)
as_other p a b side Pawn king pawn = absurd (pawn refl)
as_other p a b White Queen king pawn = refl
as_other p a b White Rook king pawn = refl
as_other p a b White Bishop king pawn = refl
as_other p a b White Knight king pawn = refl
as_other p a b Black Queen king pawn = refl
as_other p a b Black Rook king pawn = refl
as_other p a b Black Bishop king pawn = refl
as_other p a b Black Knight king pawn = refl

standing : (p : Board) (a b : ℕ) (piece : Piece) → stands p.men a (man_of p.side piece) ≡ true → goes_as (man_at p.men a) p a b ≡ goes_as (man_of p.side piece) p a b
standing p a b piece st = ap (λ m. goes_as m p a b) (same_man-is (man_at p.men a) (man_of p.side piece) st)

pub king_goes_as : (p : Board) (a b : ℕ) → stands p.men a (man_of p.side King) ≡ true
    → goes_as (man_at p.men a) p a b ≡ (attacks p.men a b || castles p a b true || castles p a b false)
king_goes_as p a b st = standing p a b King st ∙ as_king p a b p.side

pub pawn_goes_as : (p : Board) (a b : ℕ) → stands p.men a (man_of p.side Pawn) ≡ true → goes_as (man_at p.men a) p a b ≡ pawn_moves p a b
pawn_goes_as p a b st = standing p a b Pawn st ∙ as_pawn p a b p.side

pub other_goes_as : (p : Board) (a b : ℕ) (piece : Piece) → (piece ≡ King → ⊥) → (piece ≡ Pawn → ⊥)
    → stands p.men a (man_of p.side piece) ≡ true → goes_as (man_at p.men a) p a b ≡ attacks p.men a b
other_goes_as p a b piece king pawn st = standing p a b piece st ∙ as_other p a b p.side piece king pawn

-- a man of a piece of the side to move reaches a square where it goes there and the square is free
own : (side : Side) (piece : Piece) → is_of_side side (man_of side piece) ≡ true
own White King = refl
own White Queen = refl
own White Rook = refl
own White Bishop = refl
own White Knight = refl
own White Pawn = refl
own Black King = refl
own Black Queen = refl
own Black Rook = refl
own Black Bishop = refl
own Black Knight = refl
own Black Pawn = refl

pub piece_reaches : (p : Board) (a b : ℕ) (piece : Piece) → stands p.men a (man_of p.side piece) ≡ true
    → (goes_as (man_at p.men a) p a b && is_free p b) ≡ reaches p a b
piece_reaches p a b piece st =
    own_reaches p a b (ap (is_of_side p.side) (same_man-is (man_at p.men a) (man_of p.side piece) st) ∙ own p.side piece)
