-- The parts written for a move fit this move alone.
use Rattle.std.proofs.Common.{◌≡◌, ℕ, Bool, true, false, cond, not, ◌&&◌, Option, Some, None, List, [], ◌∷◌, refl, sym, ap, ap₂, ◌∙◌, subst, inl, inr, eqb-true}
use Rattle.std.specs.Prelude.{◌==◌, nat_lt, if◌then◌else◌}
use Rattle.std.proofs.lemmas.Bool.{eq-eqb, ne_eqb, and_parts, and_from, not-true, not_from_false, false≢true}
use Rattle.cq_geometry.proofs.Board.{contains_filter}
use Rattle.cq_geometry.specs.Squares.{file_of, rank_of}
use Rattle.cq_geometry.specs.Steps.{files_apart}
use Rattle.cq_position.specs.declared.men.Man.{Man}
use Rattle.cq_position.specs.declared.men.Man.TheVariants.{K, Q, R, B, N, P, BlackK, BlackQ, BlackR, BlackB, BlackN, BlackP}
use Rattle.cq_position.specs.declared.men.Promotion.{Promotion}
use Rattle.cq_position.specs.declared.men.Promotion.TheVariants.{None as NoPromotion, Q as ToQueen, R as ToRook, B as ToBishop, N as ToKnight}
use Rattle.cq_position.specs.declared.men.Side.{Side}
use Rattle.cq_position.specs.declared.men.Side.TheVariants.{White, Black}
use Rattle.cq_position.specs.declared.moves.Move.{Move}
use Rattle.cq_position.specs.Men.{same_man, is_of_side, man_of, promotion_number, king_of}
use Rattle.cq_position.specs.Board.{Board, man_at, stands, is_pawn, king_home}
use Rattle.cq_position.specs.Legal.{goes_as, Legal, Leads, is_castling, castling_goal, is_none, pawn_promotion_is_right}
use Rattle.cq_position.specs.Moves.{null_move}
use Rattle.cq_position.specs.Position.{IsPosition}
use Rattle.cq_moves.specs.LegalMoves.{legal_list}
use Rattle.cq_moves.proofs.Boards.{stands-is, stands_there, same_man-itself}
use Rattle.cq_moves.proofs.Law.{Moves, what_moves}
use Rattle.cq_position.proofs.Legality.{legal_passes}
use Rattle.cq_moves.proofs.Order.{legal_is_listed}
use Rattle.cq_moves.proofs.Castled.{Castles, castles_when, castling_squares}
use Rattle.cq_san.specs.declared.parts.PieceMove.{PieceMove}
use Rattle.cq_san.specs.declared.parts.Parts.{Parts}
use Rattle.cq_san.specs.declared.parts.Parts.TheVariants.{Castling, Null, Moved}
use Rattle.cq_san.specs.Fits.{agrees_where_given, is_same_promotion, goes_right, agrees_in_parts, agrees}
use Rattle.cq_san.specs.Reading.{IsMeant}
use Rattle.cq_san.specs.Writing.{piece_of_man, is_capture, is_rival, rivals_of, tells, file_among, rank_among, given_file, given_rank, piece_parts, san_parts}
use Rattle.cq_san.proofs.Meaning.{null_meant}
use Rattle.cq_san.proofs.Origin.{origin_alone}
use Rattle.cq_san.proofs.PawnOrigin.{pawn_origin}

-- a man of a side is the man of his piece
pub man_back : (side : Side) (man : Man) → is_of_side side man ≡ true → man_of side (piece_of_man man) ≡ man
man_back White K e = refl
man_back White Q e = refl
man_back White R e = refl
man_back White B e = refl
man_back White N e = refl
man_back White P e = refl
man_back Black BlackK e = refl
man_back Black BlackQ e = refl
man_back Black BlackR e = refl
man_back Black BlackB e = refl
man_back Black BlackN e = refl
man_back Black BlackP e = refl
man_back White _ e = absurd (false≢true e)
man_back Black _ e = absurd (false≢true e)

pub promotion_back : (a b : Promotion) → is_same_promotion a b ≡ true → a ≡ b
promotion_back NoPromotion NoPromotion e = refl
promotion_back ToQueen ToQueen e = refl
promotion_back ToRook ToRook e = refl
promotion_back ToBishop ToBishop e = refl
promotion_back ToKnight ToKnight e = refl
promotion_back _ _ e = absurd (false≢true e)

pub both_none : (a b : Promotion) → is_none a ≡ true → is_none b ≡ true → a ≡ b
both_none NoPromotion NoPromotion e f = refl
both_none _ _ e f = absurd (cc)

-- moves are the same where their parts are
pub same_move : (m n : Move) → n.from ≡ m.from → n.to ≡ m.to → n.promotion ≡ m.promotion → n.null ≡ m.null → n ≡ m
same_move m n from to promotion null =
    ap (λ x. record { from = x; to = n.to; promotion = n.promotion; null = n.null }) from
    ∙ ap (λ x. record { from = m.from; to = x; promotion = n.promotion; null = n.null }) to
    ∙ ap₂ (λ x y. record { from = m.from; to = m.to; promotion = x; null = y }) promotion null

-- the given coordinates of the moving man agree with him
itself : (part : ℕ) → (part == part) ≡ true
itself part = eq-eqb part part refl

choice_agrees : (t : Bool) (a b : Option ℕ) (x : ℕ) → agrees_where_given a x ≡ true → agrees_where_given b x ≡ true → agrees_where_given (cond t a b) x ≡ true
choice_agrees true a b x e f = e
choice_agrees false a b x e f = f

file_agrees : (others : List Move) (m : Move) → agrees_where_given (file_among others m) (file_of m.from) ≡ true
file_agrees [] m = refl
file_agrees (n ∷ ns) m =
    choice_agrees (tells file_of (n ∷ ns) m) (Some (file_of m.from)) _ (file_of m.from) (itself (file_of m.from))
    (choice_agrees (tells rank_of (n ∷ ns) m) None (Some (file_of m.from)) (file_of m.from) refl (itself (file_of m.from)))

rank_agrees : (others : List Move) (m : Move) → agrees_where_given (rank_among others m) (rank_of m.from) ≡ true
rank_agrees [] m = refl
rank_agrees (n ∷ ns) m = choice_agrees (tells file_of (n ∷ ns) m) None (Some (rank_of m.from)) (rank_of m.from) refl (itself (rank_of m.from))

given_agrees : (p : Board) (m : Move) → (agrees_where_given (given_file p m) (file_of m.from) ≡ true) × (agrees_where_given (given_rank p m) (rank_of m.from) ≡ true)
given_agrees p m = (
  choice_agrees (is_pawn (man_at p.men m.from)) _ (file_among (rivals_of p m) m) (file_of m.from)
      (choice_agrees (is_capture p m) (Some (file_of m.from)) None (file_of m.from) (itself (file_of m.from)) refl) (file_agrees (rivals_of p m) m),
  choice_agrees (is_pawn (man_at p.men m.from)) None (rank_among (rivals_of p m) m) (rank_of m.from) refl (rank_agrees (rivals_of p m) m),
)

pub five_from : (a b c d e : Bool) → a ≡ true → b ≡ true → c ≡ true → d ≡ true → e ≡ true → (a && b && c && d && e) ≡ true
five_from a b c d e s t u v w = and_from (a && b && c && d) e (and_from (a && b && c) d (and_from (a && b) c (and_from a b s t) u) v) w

pub five_parts : (a b c d e : Bool) → (a && b && c && d && e) ≡ true → (a ≡ true) × (b ≡ true) × (c ≡ true) × (d ≡ true) × (e ≡ true)
five_parts a b c d e t =
    let e_ = and_parts (a && b && c && d) e t in
    let d_ = and_parts (a && b && c) d e_.0 in
    let c_ = and_parts (a && b) c d_.0 in
    let b_ = and_parts a b c_.0 in
    (b_.0, b_.1, c_.1, d_.1, e_.1)

-- the written parts agree with the move
parts_agree : (p : Board) (m : Move) → Moves p m → is_castling p m ≡ false → agrees p (Moved (piece_parts p m)) m ≡ true
unfolding agrees
parts_agree p m w plain =
    let given = given_agrees p m in
    and_from (not m.null && not (is_castling p m)) (agrees_in_parts p (piece_parts p m) m)
    (and_from (not m.null) (not (is_castling p m)) (not_from_false m.null w.null) (not_from_false (is_castling p m) plain))
    (five_from (stands p.men m.from (man_of p.side (piece_of_man (man_at p.men m.from)))) (agrees_where_given (given_file p m) (file_of m.from))
    (agrees_where_given (given_rank p m) (rank_of m.from)) (m.to == m.to) (is_same_promotion m.promotion m.promotion)
    (stands_there p.men m.from (man_of p.side (piece_of_man (man_at p.men m.from))) (sym (man_back p.side (man_at p.men m.from) w.own)))
    given.0 given.1 (itself m.to) (itself (promotion_number m.promotion)))

-- the agreement of the parts of a man's move
pub record AgreesSo (p : Board) (parts : PieceMove) (n : Move) : Type 0 where
  pub plain : is_castling p n ≡ false
  pub man : man_at p.men n.from ≡ man_of p.side parts.piece
  pub file : agrees_where_given parts.file (file_of n.from) ≡ true
  pub rank : agrees_where_given parts.rank (rank_of n.from) ≡ true
  pub goal : n.to ≡ parts.goal
  pub promotion : n.promotion ≡ parts.promotion

pub agrees_so : (p : Board) (parts : PieceMove) (n : Move) → agrees p (Moved parts) n ≡ true → AgreesSo p parts n
unfolding agrees
agrees_so p parts n e =
    let t = and_parts (not n.null && not (is_castling p n)) (agrees_in_parts p parts n) e in
    let s = and_parts (not n.null) (not (is_castling p n)) t.0 in
    let f = five_parts (stands p.men n.from (man_of p.side parts.piece)) (agrees_where_given parts.file (file_of n.from))
    (agrees_where_given parts.rank (rank_of n.from)) (n.to == parts.goal) (is_same_promotion n.promotion parts.promotion) t.1 in
    record {
      plain = not-true (is_castling p n) s.1;
      man = stands-is p.men n.from (man_of p.side parts.piece) f.0;
      file = f.1;
      rank = f.2;
      goal = eqb-true n.to parts.goal f.3;
      promotion = promotion_back n.promotion parts.promotion f.4;
    }

-- from where a man comes that agrees, by whether he is a pawn
from_there : (p : Board) (m n : Move) → IsPosition p → (q : Board) → Legal p n q → Moves p m → Moves p n → AgreesSo p (piece_parts p m) n
    → (pawn : Bool) → is_pawn (man_at p.men m.from) ≡ pawn → n.from ≡ m.from
from_there p m n kept q legal w v a true pawn =
    let same_man_there : man_at p.men n.from ≡ man_at p.men m.from = a.man ∙ man_back p.side (man_at p.men m.from) w.own in
    let file : agrees_where_given (if is_capture p m then Some (file_of m.from) else None) (file_of n.from) ≡ true =
    subst (λ t. agrees_where_given (if t then (if is_capture p m then Some (file_of m.from) else None) else file_among (rivals_of p m) m) (file_of n.from) ≡ true) pawn a.file in
    pawn_origin p m n kept.passed w.own v.own pawn (ap is_pawn same_man_there ∙ pawn) w.goes
    (subst (λ b. goes_as (man_at p.men n.from) p n.from b ≡ true) a.goal v.goes)
    (λ captures. sym (eqb-true (file_of m.from) (file_of n.from) (subst (λ t. agrees_where_given (if t then Some (file_of m.from) else None) (file_of n.from) ≡ true) captures file)))
from_there p m n kept q legal w v a false piece =
    let same_man_there : man_at p.men n.from ≡ man_at p.men m.from = a.man ∙ man_back p.side (man_at p.men m.from) w.own in
    origin_alone (rivals_of p m) m n
    (λ other. contains_filter (is_rival p m) (legal_list p) n (legal_is_listed p n kept.whole (q, legal))
    (and_from (same_man (man_at p.men n.from) (man_at p.men m.from) && (n.to == m.to)) (not (n.from == m.from))
    (and_from (same_man (man_at p.men n.from) (man_at p.men m.from)) (n.to == m.to) (same_man-itself (man_at p.men n.from) (man_at p.men m.from) same_man_there) (eq-eqb n.to m.to a.goal))
    (not_from_false (n.from == m.from) (ne_eqb n.from m.from other))))
    (subst (λ t. agrees_where_given (if t then (if is_capture p m then Some (file_of m.from) else None) else file_among (rivals_of p m) m) (file_of n.from) ≡ true) piece a.file)
    (subst (λ t. agrees_where_given (if t then None else rank_among (rivals_of p m) m) (rank_of n.from) ≡ true) piece a.rank)

pub null_fails : (p : Board) (parts : PieceMove) (n : Move) → n ≡ null_move → agrees p (Moved parts) n ≡ true → ⊥
unfolding agrees
null_fails p parts n is e = false≢true (ap (λ x. agrees p (Moved parts) x) (sym is) ∙ e)

-- a plain move
moved_meant : (p : Board) (m : Move) (q : Board) → IsPosition p → Legal p m q → Moves p m → is_castling p m ≡ false → IsMeant p (Moved (piece_parts p m)) m
moved_meant p m q kept legal w plain = record {
  fits = record { next = q; leads = inl legal; agree = parts_agree p m w plain };
  alone = λ n f. elim f.leads [
    | inl other ↦
        let v = what_moves p n (legal_passes p n f.next other) in
        let a = agrees_so p (piece_parts p m) n f.agree in
        same_move m n (from_there p m n kept f.next other w v a (is_pawn (man_at p.men m.from)) refl) a.goal a.promotion (v.null ∙ sym w.null)
    | inr pass ↦ absurd (null_fails p (piece_parts p m) n pass.null f.agree)
  ];
}

-- a castling move: its origin, its goal, and no promotion
pub record CastlesSo (p : Board) (m : Move) : Type 0 where
  pub from : m.from ≡ king_home p.side
  pub to : m.to ≡ castling_goal p.side (goes_right m)
  pub promotion : is_none m.promotion ≡ true

on_side : (p : Board) (m : Move) (kingside : Bool) → Castles p m kingside → m.to ≡ castling_goal p.side (goes_right m)
on_side p m kingside c =
    let way : goes_right m ≡ kingside = ap₂ (λ a b. nat_lt a b) c.from_is c.to_is ∙ (castling_squares p.side kingside).way in
    c.to_is ∙ ap (castling_goal p.side) (sym way)

king_no_pawn : (side : Side) → is_pawn (king_of side) ≡ false
king_no_pawn White = refl
king_no_pawn Black = refl

pub castles_so : (p : Board) (m : Move) → Moves p m → is_castling p m ≡ true → CastlesSo p m
castles_so p m w castling =
    let king = stands-is p.men m.from (king_of p.side) (and_parts (stands p.men m.from (king_of p.side)) (files_apart m.from m.to == 2) castling).0 in
    let none : is_none m.promotion ≡ true = subst (λ t. cond t (pawn_promotion_is_right p.side m) (is_none m.promotion) ≡ true) (ap is_pawn king ∙ king_no_pawn p.side) w.promotes_so in
    elim (castles_when p m w.goes castling) [
      | inl c ↦ record { from = c.from_is; to = on_side p m true c; promotion = none }
      | inr c ↦ record { from = c.from_is; to = on_side p m false c; promotion = none }
    ]

castling_agrees : (p : Board) (m : Move) (kingside : Bool) → goes_right m ≡ kingside → m.null ≡ false → is_castling p m ≡ true → agrees p (Castling kingside) m ≡ true
unfolding agrees
castling_agrees p m true way null castling = and_from (not m.null && is_castling p m) (goes_right m) (and_from (not m.null) (is_castling p m) (not_from_false m.null null) castling) way
castling_agrees p m false way null castling = and_from (not m.null && is_castling p m) (not (goes_right m))
    (and_from (not m.null) (is_castling p m) (not_from_false m.null null) castling) (not_from_false (goes_right m) way)

pub agrees_castling : (p : Board) (n : Move) (kingside : Bool) → agrees p (Castling kingside) n ≡ true → (n.null ≡ false) × (is_castling p n ≡ true) × (goes_right n ≡ kingside)
unfolding agrees
agrees_castling p n true e =
    let t = and_parts (not n.null && is_castling p n) (goes_right n) e in let s = and_parts (not n.null) (is_castling p n) t.0 in (not-true n.null s.0, s.1, t.1)
agrees_castling p n false e =
    let t = and_parts (not n.null && is_castling p n) (not (goes_right n)) e in let s = and_parts (not n.null) (is_castling p n) t.0 in (not-true n.null s.0, s.1, not-true (goes_right n) t.1)

pub castling_meant : (p : Board) (m : Move) (q : Board) → Legal p m q → Moves p m → is_castling p m ≡ true → IsMeant p (Castling (goes_right m)) m
castling_meant p m q legal w castling = record {
  fits = record { next = q; leads = inl legal; agree = castling_agrees p m (goes_right m) refl w.null castling };
  alone = λ n f.
      let a = agrees_castling p n (goes_right m) f.agree in
      elim f.leads [
        | inl other ↦
            let v = what_moves p n (legal_passes p n f.next other) in
            let c = castles_so p m w castling in
            let d = castles_so p n v a.1 in
            same_move m n (d.from ∙ sym c.from) (d.to ∙ ap (castling_goal p.side) a.2 ∙ sym c.to) (both_none n.promotion m.promotion d.promotion c.promotion) (v.null ∙ sym w.null)
        | inr pass ↦ absurd (false≢true (sym a.0 ∙ ap (λ (x : Move). x.null) pass.null))
      ];
}

legal_meant : (p : Board) (m : Move) (q : Board) → IsPosition p → Legal p m q → Moves p m → (null castling : Bool) → m.null ≡ null → is_castling p m ≡ castling
    → IsMeant p (if null then Null else (if castling then Castling (goes_right m) else Moved (piece_parts p m))) m
legal_meant p m q kept legal w true castling e f = absurd (false≢true (sym w.null ∙ e))
legal_meant p m q kept legal w false true e f = castling_meant p m q legal w f
legal_meant p m q kept legal w false false e f = moved_meant p m q kept legal w f

-- the parts that are written are fitted by the move alone
pub meant : (p : Board) (m : Move) (q : Board) → IsPosition p → Leads p m q → IsMeant p (san_parts p m) m
unfolding san_parts
meant p m q kept leads =
    elim leads [
      | inl legal ↦ legal_meant p m q kept legal (what_moves p m (legal_passes p m q legal)) m.null (is_castling p m) refl refl
      | inr pass ↦ subst (λ (parts : Parts). IsMeant p parts m)
          (sym (ap (λ (x : Move). if x.null then Null else (if is_castling p x then Castling (goes_right x) else Moved
          (piece_parts p x))) pass.null)) (null_meant p m pass.null pass.safe)
    ]
