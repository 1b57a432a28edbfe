-- The men after a move, by the three ways in which they change.
use Rattle.std.proofs.Common.{◌≡◌, ◌≢◌, ℕ, Bool, true, false, not, ◌&&◌, ◌||◌, cond, List, ap, ap₂, ◌∙◌, inl, inr}
use Rattle.std.specs.Prelude.{slice_set, nat_lt, ◌==◌}
use Rattle.std.proofs.lemmas.Bool.{cases_Bool, cond-true, cond-false, and_parts}
use Rattle.cq_geometry.specs.Steps.{files_apart}
use Rattle.cq_position.specs.declared.men.Man.{Man}
use Rattle.cq_position.specs.declared.men.Man.TheVariants.{Empty}
use Rattle.cq_position.specs.declared.men.Side.{Side}
use Rattle.cq_position.specs.declared.men.Side.TheVariants.{White, Black}
use Rattle.cq_position.specs.declared.moves.Move.{Move}
use Rattle.cq_position.specs.declared.position.Rights.{Rights}
use Rattle.cq_position.specs.Men.{king_of, rook_of}
use Rattle.cq_position.specs.Board.{Board, man_at, stands, castling_right, king_home, rook_home, are_home, rights_stand, passant_stands}
use Rattle.cq_position.specs.Legal.{castling_crossed, is_castling, is_en_passant_capture, men_moved, rook_moved, men_after, promoted}
use Rattle.cq_moves.proofs.Boards.{stands-is, man_at-set_other}
use Rattle.cq_moves.proofs.Steps.{Goes}
use Rattle.cq_moves.proofs.Castled.{castling_squares, Castles, castles_when}
use Rattle.cq_moves.proofs.Pawns.{Captures, captures_when, beside}

-- a right that stands has king and rook at home
right_stands : (right home : Bool) → (not right || home) ≡ true → right ≡ true → home ≡ true
right_stands true home e t = e
right_stands false home e t = absurd (cc)

by_right : (men : List Man) (r : Rights) (side : Side) (kingside : Bool) → (not r.white_kingside || are_home men White true) ≡ true
    → (not r.white_queenside || are_home men White false) ≡ true → (not r.black_kingside || are_home men Black true) ≡ true
    → (not r.black_queenside || are_home men Black false) ≡ true → castling_right r side kingside ≡ true → are_home men side kingside ≡ true
by_right men r White true wk wq bk bq right = right_stands r.white_kingside (are_home men White true) wk right
by_right men r White false wk wq bk bq right = right_stands r.white_queenside (are_home men White false) wq right
by_right men r Black true wk wq bk bq right = right_stands r.black_kingside (are_home men Black true) bk right
by_right men r Black false wk wq bk bq right = right_stands r.black_queenside (are_home men Black false) bq right

pub rights_at : (men : List Man) (rights : Rights) (side : Side) (kingside : Bool) → rights_stand men rights ≡ true → castling_right rights side kingside ≡ true
    → are_home men side kingside ≡ true
rights_at men r side kingside e right =
    let wk = not r.white_kingside || are_home men White true in
    let wq = not r.white_queenside || are_home men White false in
    let bk = not r.black_kingside || are_home men Black true in
    let bq = not r.black_queenside || are_home men Black false in
    let last = and_parts (wk && wq && bk) bq e in
    let third = and_parts (wk && wq) bk last.0 in
    let front = and_parts wk wq third.0 in
    by_right men r side kingside front.0 front.1 third.1 last.1 right

-- two squares hold king and rook
pub record Home (men : List Man) (side : Side) (kingside : Bool) : Type 0 where
  pub king : man_at men (king_home side) ≡ king_of side
  pub rook : man_at men (rook_home side kingside) ≡ rook_of side

pub home_of : (men : List Man) (side : Side) (kingside : Bool) → are_home men side kingside ≡ true → Home men side kingside
home_of men side kingside e =
    let t = and_parts (stands men (king_home side) (king_of side)) (stands men (rook_home side kingside) (rook_of side)) e in
    record { king = stands-is men (king_home side) (king_of side) t.0; rook = stands-is men (rook_home side kingside) (rook_of side) t.1 }

-- the king castles and its rook goes over, a pawn takes the one that has passed it, or only the man that moves changes its place
pub data Way (p : Board) (m : Move) : Type 0 where
  castled : (kingside : Bool) → stands p.men m.from (king_of p.side) ≡ true → Castles p m kingside → men_after p m ≡ rook_moved (men_moved p m) p.side kingside → Way p m
  captured : Captures p.men p.side m.from m.to → men_after p m ≡ slice_set (men_moved p m) (beside m.from m.to) Empty → Way p m
  moved : men_after p m ≡ men_moved p m → Way p m

castled_so : (p : Board) (m : Move) (kingside : Bool) → is_castling p m ≡ true → Castles p m kingside → Way p m
castled_so p m kingside e c =
    let flag : nat_lt m.from m.to ≡ kingside = ap₂ nat_lt c.from_is c.to_is ∙ (castling_squares p.side kingside).way in
    let t = and_parts (stands p.men m.from (king_of p.side)) (files_apart m.from m.to == 2) e in
    let plain = cond (is_en_passant_capture p m) (slice_set (men_moved p m) (beside m.from m.to) Empty) (men_moved p m) in
    castled kingside t.0 c
    (cond-true (is_castling p m) (rook_moved (men_moved p m) p.side (nat_lt m.from m.to)) plain e ∙ ap (rook_moved (men_moved p m) p.side) flag)

pub way_after : (p : Board) (m : Move) → passant_stands p.men p.side p.passant ≡ true → Goes p m → Way p m
way_after p m stood g =
    let castling = rook_moved (men_moved p m) p.side (nat_lt m.from m.to) in
    let removed = slice_set (men_moved p m) (beside m.from m.to) Empty in
    let plain = cond (is_en_passant_capture p m) removed (men_moved p m) in
    elim (cases_Bool (is_castling p m)) [
      | inl does ↦ elim (castles_when p m g.goes does) [
        | inl c ↦ castled_so p m true does c
        | inr c ↦ castled_so p m false does c
      ]
      | inr other ↦
          let first : men_after p m ≡ plain = cond-false (is_castling p m) castling plain other in
          elim (cases_Bool (is_en_passant_capture p m)) [
            | inl does ↦ captured (captures_when p m stood g does) (first ∙ cond-true (is_en_passant_capture p m) removed (men_moved p m) does)
            | inr none ↦ moved (first ∙ cond-false (is_en_passant_capture p m) removed (men_moved p m) none)
          ]
    ]

pub moved_other : (p : Board) (m : Move) (square : ℕ) → square ≢ m.from → square ≢ m.to → man_at (men_moved p m) square ≡ man_at p.men square
moved_other p m square a b =
    man_at-set_other (slice_set p.men m.from Empty) m.to square (promoted p.side m.promotion (man_at p.men m.from)) b ∙ man_at-set_other p.men m.from square Empty a

pub rook_other : (men : List Man) (side : Side) (kingside : Bool) (square : ℕ) → square ≢ rook_home side kingside → square ≢ castling_crossed side kingside
    → man_at (rook_moved men side kingside) square ≡ man_at men square
rook_other men side kingside square home crossed =
    man_at-set_other (slice_set men (rook_home side kingside) Empty) (castling_crossed side kingside) square (rook_of side) crossed
    ∙ man_at-set_other men (rook_home side kingside) square Empty home

-- the squares of castling, which the king's step leaves alone
pub record RookReady (p : Board) (m : Move) (kingside : Bool) : Type 0 where
  pub rook : man_at (men_moved p m) (rook_home p.side kingside) ≡ rook_of p.side
  pub crossed : man_at (men_moved p m) (castling_crossed p.side kingside) ≡ Empty

pub rook_ready : (p : Board) (m : Move) (kingside : Bool) → rights_stand p.men p.rights ≡ true → Castles p m kingside → RookReady p m kingside
rook_ready p m kingside stood c =
    let s = castling_squares p.side kingside in
    let home = home_of p.men p.side kingside (rights_at p.men p.rights p.side kingside stood c.right) in
    record {
      rook = moved_other p m (rook_home p.side kingside) (λ e. s.rook_king (e ∙ c.from_is)) (λ e. s.rook_goal (e ∙ c.to_is)) ∙ home.rook;
      crossed = moved_other p m (castling_crossed p.side kingside) (λ e. s.crossed_king (e ∙ c.from_is)) (λ e. s.crossed_goal (e ∙ c.to_is)) ∙ c.crossed;
    }
