-- A legal move leads from a position to a position.
use Rattle.std.proofs.Common.{◌≡◌, ◌≢◌, ℕ, ◌+◌, ◌<◌, ◌≤◌, ◌⊎◌, Bool, true, false, not, ◌&&◌, ◌||◌, Option, Some, None, List, length, refl, sym, ap, ap₂, ◌∙◌, subst, inl, inr, arith}
use Rattle.std.specs.Prelude.{slice_set, count_by, nat_lt, ◌==◌}
use Rattle.std.proofs.lemmas.Bool.{cases_Bool, cond-true, cond-false, and_parts, and_from, or_from, or_parts, not-true, eqb-true, eqb-false, ltb-false, le-ltb, false_from_ne_true}
use Rattle.cq_geometry.specs.Steps.{ranks_apart}
use Rattle.cq_position.specs.declared.men.Man.{Man}
use Rattle.cq_position.specs.declared.men.Man.TheVariants.{Empty}
use Rattle.cq_position.specs.declared.men.Side.{Side}
use Rattle.cq_position.specs.declared.men.Side.TheVariants.{White, Black}
use Rattle.cq_position.specs.declared.moves.Move.{Move}
use Rattle.cq_position.specs.declared.position.Rights.{Rights}
use Rattle.cq_position.specs.Men.{same_man, is_of_side, opponent, king_of, rook_of, pawn_of}
use Rattle.cq_position.specs.Board.{Board, man_at, stands, count_of, count_of_side, is_pawn, castling_right, king_home, rook_home, are_home, has_kings, has_too_many_men, rights_stand, passant_stands, was_passed}
use Rattle.cq_position.specs.Position.{IsPosition}
use Rattle.cq_position.specs.Attacks.{in_check}
use Rattle.cq_position.specs.Legal.{Legal, is_pseudo_legal, after, after_pass, men_moved, men_after, promoted, rook_moved, castling_crossed, keeps_right, rights_after, passant_after, middle, next_move_number, number_after}
use Rattle.cq_moves.proofs.Boards.{stands-is, stands_there, man_at-set_other, length-set_man, counted, count-set, EdgeFree, EdgeFree-from, EdgeFree-gives, EdgeFree-set}
use Rattle.cq_moves.proofs.Steps.{Goes, goes, apart, it_lands}
use Rattle.cq_moves.proofs.Castled.{castling_squares, other_home}
use Rattle.cq_moves.proofs.Pawns.{no_pawn_lands, double_passed, two_ranks_one_file, beside}
use Rattle.cq_moves.proofs.Ways.{Way, castled, captured, moved, way_after, moved_other, rook_other, rook_ready, home_of, rights_at}

-- the side that moves, or the other one
same_or_other : (s side : Side) → (s ≡ side) ⊎ (s ≡ opponent side)
same_or_other White White = inl refl
same_or_other White Black = inr refl
same_or_other Black White = inr refl
same_or_other Black Black = inl refl

own_king : (side : Side) → is_of_side side (king_of side) ≡ true
own_king White = refl
own_king Black = refl

-- no king stands on the goal
no_king_there : (p : Board) (m : Move) → Goes p m → (s : Side) → stands p.men m.to (king_of s) ≡ false
no_king_there p m g s = false_from_ne_true (stands p.men m.to (king_of s)) (λ e.
    elim (same_or_other s p.side) [
      | inl own ↦
          let king : man_at p.men m.to ≡ king_of p.side = stands-is p.men m.to (king_of s) e ∙ ap king_of own in
          let bad : false ≡ true = sym g.not_own ∙ ap (is_of_side p.side) king ∙ own_king p.side in
          cc
      | inr other ↦ let bad : false ≡ true = sym g.no_king ∙ ap (λ t. stands p.men m.to (king_of t)) (sym other) ∙ e in cc
    ])

-- the men after a move: all squares, the kings, at most as many men of a side, and no pawn on the edge
pub record Keeps (old men : List Man) : Type 0 where
  pub whole : length men ≡ 64
  pub kings : (s : Side) → count_of (king_of s) men ≡ count_of (king_of s) old
  few : (s : Side) → count_of_side s men ≤ count_of_side s old
  edge : EdgeFree men

-- a count that sees no empty square, and the man on the goal as the man that moved
moved_count : (t : Man → Bool) (p : Board) (m : Move) → length p.men ≡ 64 → Goes p m → t Empty ≡ false
    → t (promoted p.side m.promotion (man_at p.men m.from)) ≡ t (man_at p.men m.from)
    → count_by t (men_moved p m) + counted (t (man_at p.men m.to)) ≡ count_by t p.men
moved_count t p m w g none same =
    let man = man_at p.men m.from in
    let lands = promoted p.side m.promotion man in
    let left = slice_set p.men m.from Empty in
    let from : m.from < length p.men = omega (arith, g.from_board) in
    let to : m.to < length left = omega (arith, g.to_board, length-set_man p.men m.from Empty w) in
    let first = count-set t p.men m.from Empty from in
    let second = count-set t left m.to lands to in
    let there = ap (λ x. counted (t x)) (man_at-set_other p.men m.from m.to Empty (λ e. apart g (sym e))) in
    let nothing : counted (t Empty) ≡ 0 = ap counted none in
    let alike : counted (t lands) ≡ counted (t man) = ap counted same in
    omega (arith, first, second, there, nothing, alike)

rook_count : (t : Man → Bool) (men : List Man) (side : Side) (kingside : Bool) → length men ≡ 64 → t Empty ≡ false
    → man_at men (rook_home side kingside) ≡ rook_of side → man_at men (castling_crossed side kingside) ≡ Empty
    → count_by t (rook_moved men side kingside) ≡ count_by t men
rook_count t men side kingside w none rook crossed =
    let s = castling_squares side kingside in
    let home = rook_home side kingside in
    let over = castling_crossed side kingside in
    let left = slice_set men home Empty in
    let first = count-set t men home Empty (omega (arith, s.rook_board)) in
    let second = count-set t left over (rook_of side) (omega (arith, s.crossed_board, length-set_man men home Empty w)) in
    let there = ap (λ x. counted (t x)) (man_at-set_other men home over Empty s.crossed_rook ∙ crossed) in
    let away = ap (λ x. counted (t x)) rook in
    omega (arith, first, second, there, away)

no_man : (s : Side) → is_of_side s Empty ≡ false
no_man White = refl
no_man Black = refl

no_king : (s : Side) → same_man Empty (king_of s) ≡ false
no_king White = refl
no_king Black = refl

pawn_no_king : (s side : Side) → same_man (pawn_of side) (king_of s) ≡ false
pawn_no_king White White = refl
pawn_no_king White Black = refl
pawn_no_king Black White = refl
pawn_no_king Black Black = refl

no_pawn_empty : is_pawn Empty ≡ false
no_pawn_empty = refl

rook_no_pawn : (side : Side) → is_pawn (rook_of side) ≡ false
rook_no_pawn White = refl
rook_no_pawn Black = refl

moved_keeps : (p : Board) (m : Move) → length p.men ≡ 64 → EdgeFree p.men → Goes p m → Keeps p.men (men_moved p m)
moved_keeps p m w free g =
    let man = man_at p.men m.from in
    let l = it_lands p m g in
    let lands = promoted p.side m.promotion man in
    let left = slice_set p.men m.from Empty in
    let short = length-set_man p.men m.from Empty w in
    record {
      whole = length-set_man left m.to lands short;
      kings = λ s.
          let total = moved_count (λ x. same_man x (king_of s)) p m w g (no_king s) (l.kings s) in
          let nothing : counted (stands p.men m.to (king_of s)) ≡ 0 = ap counted (no_king_there p m g s) in
          omega (arith, total, nothing);
      few = λ s. let total = moved_count (is_of_side s) p m w g (no_man s) (l.sides s) in omega (arith, total);
      edge =
          EdgeFree-set left m.to lands (omega (arith, g.to_board, short)) (no_pawn_lands p m g)
          (EdgeFree-set p.men m.from Empty (omega (arith, g.from_board)) (λ _. no_pawn_empty) free);
    }

rook_keeps : (old men : List Man) (side : Side) (kingside : Bool) → Keeps old men → man_at men (rook_home side kingside) ≡ rook_of side
    → man_at men (castling_crossed side kingside) ≡ Empty → Keeps old (rook_moved men side kingside)
rook_keeps old men side kingside k rook crossed =
    let s = castling_squares side kingside in
    let home = rook_home side kingside in
    let over = castling_crossed side kingside in
    let left = slice_set men home Empty in
    let short = length-set_man men home Empty k.whole in
    record {
      whole = length-set_man left over (rook_of side) short;
      kings = λ t. rook_count (λ x. same_man x (king_of t)) men side kingside k.whole (no_king t) rook crossed ∙ k.kings t;
      few = λ t. let same = rook_count (is_of_side t) men side kingside k.whole (no_man t) rook crossed in omega (arith, same, k.few t);
      edge =
          EdgeFree-set left over (rook_of side) (omega (arith, s.crossed_board, short)) (λ _. rook_no_pawn side)
          (EdgeFree-set men home Empty (omega (arith, s.rook_board, k.whole)) (λ _. no_pawn_empty) k.edge);
    }

-- a pawn is taken from its square
taken_keeps : (old men : List Man) (square : ℕ) (side : Side) → Keeps old men → square < 64 → man_at men square ≡ pawn_of side → Keeps old (slice_set men square Empty)
taken_keeps old men square side k h pawn =
    let in_board : square < length men = omega (arith, k.whole) in
    record {
      whole = length-set_man men square Empty k.whole;
      kings = λ s.
          let total = count-set (λ x. same_man x (king_of s)) men square Empty in_board in
          let king : counted (same_man (man_at men square) (king_of s)) ≡ 0 = ap (λ x. counted (same_man x (king_of s))) pawn ∙ ap counted (pawn_no_king s side) in
          let nothing : counted (same_man Empty (king_of s)) ≡ 0 = ap counted (no_king s) in
          let same : count_of (king_of s) (slice_set men square Empty) ≡ count_of (king_of s) men = omega (arith, total, king, nothing) in
          same ∙ k.kings s;
      few = λ s.
          let total = count-set (is_of_side s) men square Empty in_board in
          let nothing : counted (is_of_side s Empty) ≡ 0 = ap counted (no_man s) in
          omega (arith, total, nothing, k.few s);
      edge = EdgeFree-set men square Empty in_board (λ _. no_pawn_empty) k.edge;
    }

pub after_keeps : (p : Board) (m : Move) → length p.men ≡ 64 → EdgeFree p.men → rights_stand p.men p.rights ≡ true → Goes p m → Way p m → Keeps p.men (men_after p m)
after_keeps p m w free stood g (castled kingside king c is) =
    let r = rook_ready p m kingside stood c in
    subst (Keeps p.men) (sym is) (rook_keeps p.men (men_moved p m) p.side kingside (moved_keeps p m w free g) r.rook r.crossed)
after_keeps p m w free stood g (captured c is) =
    let pawn = moved_other p m (beside m.from m.to) c.off_from c.off_to ∙ c.pawn in
    subst (Keeps p.men) (sym is) (taken_keeps p.men (men_moved p m) (beside m.from m.to) (opponent p.side) (moved_keeps p m w free g) c.board pawn)
after_keeps p m w free stood g (moved is) = subst (Keeps p.men) (sym is) (moved_keeps p m w free g)

-- the man on a square that the move leaves alone
same_after : (p : Board) (m : Move) → Way p m → (square : ℕ) → square ≢ m.from → square ≢ m.to
    → ((kingside : Bool) → stands p.men m.from (king_of p.side) ≡ true → (square ≢ rook_home p.side kingside) × (square ≢ castling_crossed p.side kingside))
    → man_at p.men square ≢ pawn_of (opponent p.side) → man_at (men_after p m) square ≡ man_at p.men square
same_after p m (castled kingside king c is) square from to off pawn =
    ap (λ x. man_at x square) is ∙ rook_other (men_moved p m) p.side kingside square (off kingside king).0 (off kingside king).1 ∙ moved_other p m square from to
same_after p m (captured c is) square from to off pawn =
    ap (λ x. man_at x square) is ∙ man_at-set_other (men_moved p m) (beside m.from m.to) square Empty (λ e. pawn (ap (man_at p.men) e ∙ c.pawn)) ∙ moved_other p m square from to
same_after p m (moved is) square from to off pawn = ap (λ x. man_at x square) is ∙ moved_other p m square from to

pub king_not_pawn : (s side : Side) → king_of s ≢ pawn_of side
king_not_pawn White White e = cc
king_not_pawn White Black e = cc
king_not_pawn Black White e = cc
king_not_pawn Black Black e = cc

rook_not_pawn : (s side : Side) → rook_of s ≢ pawn_of side
rook_not_pawn White White e = cc
rook_not_pawn White Black e = cc
rook_not_pawn Black White e = cc
rook_not_pawn Black Black e = cc

-- the facts about a right that is left after a move
record RightKept (p : Board) (m : Move) (s : Side) (kingside : Bool) : Type 0 where
  right : castling_right p.rights s kingside ≡ true
  no_king : stands p.men m.from (king_of s) ≡ false
  from : rook_home s kingside ≢ m.from
  to : rook_home s kingside ≢ m.to

right_kept : (p : Board) (m : Move) (s : Side) (kingside : Bool) → keeps_right p m s kingside ≡ true → RightKept p m s kingside
right_kept p m s kingside e =
    let right = castling_right p.rights s kingside in
    let king = stands p.men m.from (king_of s) in
    let home = rook_home s kingside in
    let last = and_parts (right && not king && not (m.from == home)) (not (m.to == home)) e in
    let third = and_parts (right && not king) (not (m.from == home)) last.0 in
    let front = and_parts right (not king) third.0 in
    record {
      right = front.0;
      no_king = not-true king front.1;
      from = λ same. eqb-false m.from home (not-true (m.from == home) third.1) (sym same);
      to = λ same. eqb-false m.to home (not-true (m.to == home) last.1) (sym same);
    }

home_after : (p : Board) (m : Move) → rights_stand p.men p.rights ≡ true → Goes p m → Way p m → (s : Side) (kingside : Bool) → keeps_right p m s kingside ≡ true
    → are_home (men_after p m) s kingside ≡ true
home_after p m stood g w s kingside e =
    let k = right_kept p m s kingside e in
    let home = home_of p.men s kingside (rights_at p.men p.rights s kingside stood k.right) in
    let king_from : king_home s ≢ m.from = λ same.
    let bad : false ≡ true = sym k.no_king ∙ stands_there p.men m.from (king_of s) (ap (man_at p.men) (sym same) ∙ home.king) in cc in
    let king_to : king_home s ≢ m.to = λ same.
    let bad : false ≡ true = sym (no_king_there p m g s) ∙ stands_there p.men m.to (king_of s) (ap (man_at p.men) (sym same) ∙ home.king) in cc in
    let other : stands p.men m.from (king_of p.side) ≡ true → s ≡ opponent p.side = λ king. elim (same_or_other s p.side) [
      | inl own ↦ let bad : false ≡ true = sym k.no_king ∙ ap (λ t. stands p.men m.from (king_of t)) own ∙ king in absurd (cc)
      | inr theirs ↦ theirs
    ] in
    let king = same_after p m w (king_home s) king_from king_to
    (λ side king. let o = other_home p.side side kingside in (λ x. o.king_rook (ap king_home (sym (other king)) ∙ x), λ x. o.king_crossed (ap king_home (sym (other king)) ∙ x)))
    (λ x. king_not_pawn s (opponent p.side) (sym home.king ∙ x)) in
    let rook = same_after p m w (rook_home s kingside) k.from k.to
    (λ side king. let o = other_home p.side side kingside in
    (λ x. o.rook_rook (ap (λ t. rook_home t kingside) (sym (other king)) ∙ x), λ x. o.rook_crossed (ap (λ t. rook_home t kingside) (sym (other king)) ∙ x)))
    (λ x. rook_not_pawn s (opponent p.side) (sym home.rook ∙ x)) in
    and_from (stands (men_after p m) (king_home s) (king_of s)) (stands (men_after p m) (rook_home s kingside) (rook_of s))
    (stands_there (men_after p m) (king_home s) (king_of s) (king ∙ home.king)) (stands_there (men_after p m) (rook_home s kingside) (rook_of s) (rook ∙ home.rook))

right_or : (right home : Bool) → (right ≡ true → home ≡ true) → (not right || home) ≡ true
right_or true home f = f refl
right_or false home f = refl

rights_from : (men : List Man) (r : Rights) → ((s : Side) (kingside : Bool) → castling_right r s kingside ≡ true → are_home men s kingside ≡ true) → rights_stand men r ≡ true
rights_from men r home =
    let wk = not r.white_kingside || are_home men White true in
    let wq = not r.white_queenside || are_home men White false in
    let bk = not r.black_kingside || are_home men Black true in
    let bq = not r.black_queenside || are_home men Black false in
    let front = and_from wk wq (right_or r.white_kingside (are_home men White true) (home White true)) (right_or r.white_queenside (are_home men White false) (home White false)) in
    let third = and_from (wk && wq) bk front (right_or r.black_kingside (are_home men Black true) (home Black true)) in
    and_from (wk && wq && bk) bq third (right_or r.black_queenside (are_home men Black false) (home Black false))

by_side : (p : Board) (m : Move) (s : Side) (kingside : Bool) → castling_right (rights_after p m) s kingside ≡ true → keeps_right p m s kingside ≡ true
by_side p m White true e = e
by_side p m White false e = e
by_side p m Black true e = e
by_side p m Black false e = e

rights_kept : (p : Board) (m : Move) → rights_stand p.men p.rights ≡ true → Goes p m → Way p m → rights_stand (men_after p m) (rights_after p m) ≡ true
rights_kept p m stood g w = rights_from (men_after p m) (rights_after p m) (λ s kingside e. home_after p m stood g w s kingside (by_side p m s kingside e))

-- the en passant square
passes_none : (men : List Man) (side : Side) (passant : Option ℕ) → passant ≡ None → passant_stands men side passant ≡ true
passes_none men side passant none = ap (passant_stands men side) none

king_no_pawn : (side : Side) → is_pawn (king_of side) ≡ false
king_no_pawn White = refl
king_no_pawn Black = refl

only_moved : (p : Board) (m : Move) → Goes p m → Way p m → is_pawn (man_at p.men m.from) ≡ true → ranks_apart m.from m.to ≡ 2 → men_after p m ≡ men_moved p m
only_moved p m g (castled kingside king c is) pawn two =
    let man = stands-is p.men m.from (king_of p.side) king in
    let bad : false ≡ true = sym (king_no_pawn p.side) ∙ ap is_pawn (sym man) ∙ pawn in
    absurd (cc)
only_moved p m g (captured c is) pawn two = absurd (two_ranks_one_file p m g pawn two c.files)
only_moved p m g (moved is) pawn two = is

passant_kept : (p : Board) (m : Move) → length p.men ≡ 64 → Goes p m → Way p m → passant_stands (men_after p m) (opponent p.side) (passant_after p m) ≡ true
passant_kept p m w g way =
    let double = is_pawn (man_at p.men m.from) && (ranks_apart m.from m.to == 2) in
    elim (cases_Bool double) [
      | inl does ↦
          let t = and_parts (is_pawn (man_at p.men m.from)) (ranks_apart m.from m.to == 2) does in
          let two = eqb-true (ranks_apart m.from m.to) 2 t.1 in
          ap (passant_stands (men_after p m) (opponent p.side)) (cond-true double (Some (middle m.from m.to)) None does)
          ∙ ap (λ x. was_passed x (opponent p.side) (middle m.from m.to)) (only_moved p m g way t.0 two)
          ∙ double_passed p m w g t.0 two
      | inr other ↦ passes_none (men_after p m) (opponent p.side) (passant_after p m) (cond-false double (Some (middle m.from m.to)) None other)
    ]

-- the number
raised_some : (side : Side) (number : ℕ) → 0 < number → 0 < next_move_number side number
raised_some White number h = h
raised_some Black number h = omega arith

raised_fits : (side : Side) (number : ℕ) → number < 4294967296 → next_move_number side number < 4294967296
raised_fits White number h = h
raised_fits Black number h = omega arith

kings_kept : (old men : List Man) → ((s : Side) → count_of (king_of s) men ≡ count_of (king_of s) old) → has_kings old ≡ true → has_kings men ≡ true
kings_kept old men same e =
    ap₂ (λ a b. (a == 1) && (b == 1)) (same White) (same Black) ∙ e

few_kept : (old men : List Man) → ((s : Side) → count_of_side s men ≤ count_of_side s old) → has_too_many_men old ≡ false → has_too_many_men men ≡ false
few_kept old men few e =
    let t = or_parts (nat_lt 16 (count_of_side White old)) (nat_lt 16 (count_of_side Black old)) e in
    let white = ltb-false 16 (count_of_side White old) t.0 in
    let black = ltb-false 16 (count_of_side Black old) t.1 in
    or_from (nat_lt 16 (count_of_side White men)) (nat_lt 16 (count_of_side Black men))
    (le-ltb 16 (count_of_side White men) (omega (arith, white, few White))) (le-ltb 16 (count_of_side Black men) (omega (arith, black, few Black)))

opponent_back : (side : Side) → opponent (opponent side) ≡ side
opponent_back White = refl
opponent_back Black = refl

pub after_is_position : (p : Board) (m : Move) → IsPosition p → is_pseudo_legal p m ≡ true → in_check (men_after p m) p.side ≡ false → IsPosition (after p m)
unfolding after
after_is_position p m i can safe =
    let g = goes p m i.whole can in
    let way = way_after p m i.passed g in
    let k = after_keeps p m i.whole (EdgeFree-from p.men i.whole i.no_pawn_on_edge) i.rights g way in
    record {
      whole = k.whole;
      kings = kings_kept p.men (men_after p m) k.kings i.kings;
      no_pawn_on_edge = EdgeFree-gives (men_after p m) k.whole k.edge;
      few_enough = few_kept p.men (men_after p m) k.few i.few_enough;
      rights = rights_kept p m i.rights g way;
      passed = passant_kept p m i.whole g way;
      opponent_not_in_check = ap (in_check (men_after p m)) (opponent_back p.side) ∙ safe;
      numbered = raised_some p.side p.number i.numbered;
      fits = raised_fits p.side p.number i.fits;
    }

men_of_after : (p : Board) (m : Move) → (after p m).men ≡ men_after p m
unfolding after
men_of_after p m = refl

-- a legal move leads from a position to a position
pub legal_is_position : (p : Board) (m : Move) (q : Board) → IsPosition p → Legal p m q → IsPosition q
legal_is_position p m q i l =
    let men : q.men ≡ men_after p m = ap (λ (b : Board). b.men) l.leads ∙ men_of_after p m in
    let safe : in_check (men_after p m) p.side ≡ false = ap (λ x. in_check x p.side) (sym men) ∙ l.safe in
    subst IsPosition (sym l.leads) (after_is_position p m i l.moves safe)

-- a side that is not in check passes from a position to a position
pub after_pass_is_position : (p : Board) → IsPosition p → in_check p.men p.side ≡ false → IsPosition (after_pass p)
unfolding after_pass
after_pass_is_position p i safe = record {
  whole = i.whole;
  kings = i.kings;
  no_pawn_on_edge = i.no_pawn_on_edge;
  few_enough = i.few_enough;
  rights = i.rights;
  passed = refl;
  opponent_not_in_check = ap (in_check p.men) (opponent_back p.side) ∙ safe;
  numbered = raised_some p.side p.number i.numbered;
  fits = raised_fits p.side p.number i.fits;
}

-- the parts of the position after a move, as a body has them
abbrev pub made_of : Board → Move → Board
made_of p m = record { men = men_after p m; side = opponent p.side; rights = rights_after p m; passant = passant_after p m; number = number_after p }

after_is_made : (p : Board) (m : Move) → after p m ≡ made_of p m
unfolding after
after_is_made p m = refl

pub made_is_position : (p : Board) (m : Move) → IsPosition p → ((q : Board) × Legal p m q) → IsPosition (made_of p m)
made_is_position p m i l = subst IsPosition (l.1.leads ∙ after_is_made p m) (legal_is_position p m l.0 i l.1)

pub made_is_legal : (p : Board) (m : Move) → ((q : Board) × Legal p m q) → Legal p m (made_of p m)
made_is_legal p m l = subst (Legal p m) (l.1.leads ∙ after_is_made p m) l.1
