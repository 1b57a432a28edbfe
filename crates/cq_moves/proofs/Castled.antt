-- Castling, by its squares.
use Rattle.std.proofs.Common.{◌≡◌, ◌≢◌, ℕ, ◌<◌, ◌⊎◌, Bool, true, false, not, ◌&&◌, ◌||◌, List, [], ◌∷◌, refl, subst, inl, inr, arith}
use Rattle.std.specs.Prelude.{nat_lt, ◌==◌}
use Rattle.std.specs.List.{list_all}
use Rattle.std.proofs.lemmas.Bool.{eqb-true, and_parts, or_cases, not-true, not-false}
use Rattle.cq_geometry.specs.Squares.{squares}
use Rattle.cq_geometry.specs.Steps.{files_apart, distance, is_king_step}
use Rattle.cq_geometry.specs.Lines.{is_open, between_squares}
use Rattle.cq_position.specs.declared.men.Man.{Man}
use Rattle.cq_position.specs.declared.men.Man.TheVariants.{Empty}
use Rattle.cq_position.specs.declared.men.Side.{Side}
use Rattle.cq_position.specs.declared.men.Side.TheVariants.{White, Black}
use Rattle.cq_position.specs.declared.moves.Move.{Move}
use Rattle.cq_position.specs.Men.{opponent, king_of}
use Rattle.cq_position.specs.Board.{Board, man_at, stands, castling_right, king_home, rook_home}
use Rattle.cq_position.specs.Attacks.{attacks, attacks_as, is_occupied, is_attacked}
use Rattle.cq_position.specs.Legal.{goes_as, castles, castling_goal, castling_crossed, is_castling}
use Rattle.cq_moves.proofs.Boards.{stands-is}

-- the squares of castling are on the board, and apart
pub record CastlingSquares (side : Side) (kingside : Bool) : Type 0 where
  pub rook_board : rook_home side kingside < 64
  pub crossed_board : castling_crossed side kingside < 64
  pub rook_king : rook_home side kingside ≢ king_home side
  pub rook_goal : rook_home side kingside ≢ castling_goal side kingside
  pub crossed_king : castling_crossed side kingside ≢ king_home side
  pub crossed_goal : castling_crossed side kingside ≢ castling_goal side kingside
  pub crossed_rook : castling_crossed side kingside ≢ rook_home side kingside
  pub way : nat_lt (king_home side) (castling_goal side kingside) ≡ kingside

pub castling_squares : (side : Side) (kingside : Bool) → CastlingSquares side kingside
castling_squares White true = record {
  rook_board = omega arith;
  crossed_board = omega arith;
  rook_king = omega arith;
  rook_goal = omega arith;
  crossed_king = omega arith;
  crossed_goal = omega arith;
  crossed_rook = omega arith;
  way = refl;
}
castling_squares White false = record {
  rook_board = omega arith;
  crossed_board = omega arith;
  rook_king = omega arith;
  rook_goal = omega arith;
  crossed_king = omega arith;
  crossed_goal = omega arith;
  crossed_rook = omega arith;
  way = refl;
}
castling_squares Black true = record {
  rook_board = omega arith;
  crossed_board = omega arith;
  rook_king = omega arith;
  rook_goal = omega arith;
  crossed_king = omega arith;
  crossed_goal = omega arith;
  crossed_rook = omega arith;
  way = refl;
}
castling_squares Black false = record {
  rook_board = omega arith;
  crossed_board = omega arith;
  rook_king = omega arith;
  rook_goal = omega arith;
  crossed_king = omega arith;
  crossed_goal = omega arith;
  crossed_rook = omega arith;
  way = refl;
}

-- and apart from the home squares of the opponent
pub record OtherHome (side : Side) (kingside : Bool) (other : Bool) : Type 0 where
  pub king_rook : king_home (opponent side) ≢ rook_home side kingside
  pub king_crossed : king_home (opponent side) ≢ castling_crossed side kingside
  pub rook_rook : rook_home (opponent side) other ≢ rook_home side kingside
  pub rook_crossed : rook_home (opponent side) other ≢ castling_crossed side kingside

pub other_home : (side : Side) (kingside other : Bool) → OtherHome side kingside other
other_home White true true = record { king_rook = omega arith; king_crossed = omega arith; rook_rook = omega arith; rook_crossed = omega arith }
other_home White true false = record { king_rook = omega arith; king_crossed = omega arith; rook_rook = omega arith; rook_crossed = omega arith }
other_home White false true = record { king_rook = omega arith; king_crossed = omega arith; rook_rook = omega arith; rook_crossed = omega arith }
other_home White false false = record { king_rook = omega arith; king_crossed = omega arith; rook_rook = omega arith; rook_crossed = omega arith }
other_home Black true true = record { king_rook = omega arith; king_crossed = omega arith; rook_rook = omega arith; rook_crossed = omega arith }
other_home Black true false = record { king_rook = omega arith; king_crossed = omega arith; rook_rook = omega arith; rook_crossed = omega arith }
other_home Black false true = record { king_rook = omega arith; king_crossed = omega arith; rook_rook = omega arith; rook_crossed = omega arith }
other_home Black false false = record { king_rook = omega arith; king_crossed = omega arith; rook_rook = omega arith; rook_crossed = omega arith }

-- a king that castles: from where, to where, and over an empty square
pub record Castles (p : Board) (m : Move) (kingside : Bool) : Type 0 where
  pub from_is : m.from ≡ king_home p.side
  pub to_is : m.to ≡ castling_goal p.side kingside
  pub right : castling_right p.rights p.side kingside ≡ true
  pub crossed : man_at p.men (castling_crossed p.side kingside) ≡ Empty

-- the square that the king crosses lies between king and rook
first_open : (occupied : ℕ → Bool) (a b : Bool) → (not a && b) ≡ true → a ≡ false
first_open occupied a b e = not-true a (and_parts (not a) b e).0

crossed_open : (side : Side) (kingside : Bool) (occupied : ℕ → Bool) → is_open occupied (king_home side) (rook_home side kingside) ≡ true
    → occupied (castling_crossed side kingside) ≡ false
unfolding between_squares squares
crossed_open White true occupied e = first_open occupied (occupied 5) (list_all (λ s. not (occupied s)) (6 ∷ [])) e
crossed_open White false occupied e = first_open occupied (occupied 3) (list_all (λ s. not (occupied s)) (2 ∷ 1 ∷ [])) e
crossed_open Black true occupied e = first_open occupied (occupied 61) (list_all (λ s. not (occupied s)) (62 ∷ [])) e
crossed_open Black false occupied e = first_open occupied (occupied 59) (list_all (λ s. not (occupied s)) (58 ∷ 57 ∷ [])) e

five_parts : (a b c d e : Bool) → (a && b && c && d && e) ≡ true → (a ≡ true) × (b ≡ true) × (c ≡ true) × (d ≡ true)
five_parts a b c d e t =
    let e' = and_parts (a && b && c && d) e t in
    let d' = and_parts (a && b && c) d e'.0 in
    let c' = and_parts (a && b) c d'.0 in
    let b' = and_parts a b c'.0 in
    (b'.0, b'.1, c'.1, d'.1)

castles_so : (p : Board) (m : Move) (kingside : Bool) → castles p m.from m.to kingside ≡ true → Castles p m kingside
castles_so p m kingside e =
    let t = five_parts (m.from == king_home p.side) (m.to == castling_goal p.side kingside) (castling_right p.rights p.side kingside)
    (is_open (is_occupied p.men) (king_home p.side) (rook_home p.side kingside))
    (list_all (λ square. not (is_attacked p.men (opponent p.side) square)) (m.from ∷ castling_crossed p.side kingside ∷ m.to ∷ [])) e in
    let crossed = castling_crossed p.side kingside in
    record {
      from_is = eqb-true m.from (king_home p.side) t.0;
      to_is = eqb-true m.to (castling_goal p.side kingside) t.1;
      right = t.2;
      crossed = stands-is p.men crossed Empty (not-false (stands p.men crossed Empty) (crossed_open p.side kingside (is_occupied p.men) t.3));
    }

king_step : (side : Side) (occupied : ℕ → Bool) (a b : ℕ) → attacks_as (king_of side) occupied a b ≡ true → is_king_step a b ≡ true
king_step White occupied a b e = e
king_step Black occupied a b e = e

king_attacks : (side : Side) (men : List Man) (a b : ℕ) → man_at men a ≡ king_of side → attacks men a b ≡ true → is_king_step a b ≡ true
unfolding attacks
king_attacks side men a b is e = king_step side (is_occupied men) a b (subst (λ (man : Man). attacks_as man (is_occupied men) a b ≡ true) is e)

king_moves : (side : Side) (p : Board) (a b : ℕ) → goes_as (king_of side) p a b ≡ true
    → (attacks p.men a b || castles p a b true || castles p a b false) ≡ true
king_moves White p a b e = e
king_moves Black p a b e = e

no_step : (a b : ℕ) → is_king_step a b ≡ true → files_apart a b ≡ 2 → ⊥
no_step a b step two = let one : distance a b ≡ 1 = eqb-true (distance a b) 1 step in omega arith

-- a king that goes two files castles
pub castles_when : (p : Board) (m : Move) → goes_as (man_at p.men m.from) p m.from m.to ≡ true → is_castling p m ≡ true → Castles p m true ⊎ Castles p m false
castles_when p m goes castling =
    let t = and_parts (stands p.men m.from (king_of p.side)) (files_apart m.from m.to == 2) castling in
    let king = stands-is p.men m.from (king_of p.side) t.0 in
    let two = eqb-true (files_apart m.from m.to) 2 t.1 in
    let ways = king_moves p.side p m.from m.to (subst (λ (man : Man). goes_as man p m.from m.to ≡ true) king goes) in
    elim (or_cases (attacks p.men m.from m.to || castles p m.from m.to true) (castles p m.from m.to false) ways) [
      | inl rest ↦ elim (or_cases (attacks p.men m.from m.to) (castles p m.from m.to true) rest) [
        | inl step ↦ absurd (no_step m.from m.to (king_attacks p.side p.men m.from m.to king step) two)
        | inr kingside ↦ inl (castles_so p m true kingside)
      ]
      | inr queenside ↦ inr (castles_so p m false queenside)
    ]
