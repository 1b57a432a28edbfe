-- Rivals by their origins.
use Rattle.std.proofs.Common.{◌≡◌, ◌≢◌, ℕ, zero, suc, ◌+◌, ◌<◌, ◌≤◌, Bool, true, false, cond, not, ◌&&◌, List, [], ◌∷◌, length, get_or, refl, sym, ap, subst, ◌∙◌, inl, inr, arith, eqb-true}
use Rattle.std.specs.Prelude.{◌==◌, count_by}
use Rattle.std.specs.List.{Contains, filter, list_any}
use Rattle.std.proofs.lemmas.Bool.{and_parts, and_from, cases_lt, eq-eqb, cases_Bool, not_from_false, false≢true}
use Rattle.std.proofs.lemmas.List.Elements.{filter_passes, All-contains}
use Rattle.std.proofs.lemmas.List.Sums.{sum_by-cons}
use Rattle.std.proofs.lemmas.List.Folds.{Any-from_list_any, list_any-from_Any}
use Rattle.cq_geometry.specs.Squares.{squares, file_of, rank_of}
use Rattle.cq_geometry.specs.Steps.{files_apart}
use Rattle.cq_geometry.proofs.Board.{in_kept_squares}
use Rattle.cq_position.specs.declared.men.Man.{Man}
use Rattle.cq_position.specs.declared.men.Man.TheVariants.{K, BlackK, Empty}
use Rattle.cq_position.specs.declared.men.Promotion.{Promotion}
use Rattle.cq_position.specs.declared.men.Side.{Side}
use Rattle.cq_position.specs.declared.men.Side.TheVariants.{White, Black}
use Rattle.cq_position.specs.declared.moves.Move.{Move}
use Rattle.cq_position.specs.Men.{same_man, man_of, king_of}
use Rattle.cq_position.specs.Board.{Board, man_at, stands, is_pawn, has_kings, count_of}
use Rattle.cq_position.specs.Legal.{Legal, is_castling, is_none, pawn_promotion_is_right, after}
use Rattle.cq_position.specs.Position.{IsPosition}
use Rattle.cq_position.specs.Legality.{legal_test}
use Rattle.cq_moves.specs.LegalMoves.{legal_list}
use Rattle.cq_moves.proofs.Boards.{same_man-is, same_man-itself, stands-is}
use Rattle.cq_moves.proofs.Law.{Moves, what_moves, legal_on_board}
use Rattle.cq_position.proofs.Legality.{legal_passes, test_leads}
use Rattle.cq_moves.proofs.Order.{listed_is_legal, legal_is_listed}
use Rattle.cq_san.specs.Fits.{agrees_in_parts, is_same_promotion}
use Rattle.cq_san.specs.Internal.Origins.{move_from, is_origin, origins}
use Rattle.cq_san.specs.Internal.Rivals.{on_file, on_rank, without_origin, is_elsewhere, is_elsewhere_on_file, is_elsewhere_on_rank}
use Rattle.cq_san.specs.Writing.{is_rival, piece_of_man}
use Rattle.cq_san.proofs.Alone.{man_back, same_move, both_none, five_from, five_parts}
use Rattle.cq_san.proofs.Candidates.{same_test}

-- two places that pass a test are counted twice
counted_first : (t : Man → Bool) (man : Man) (men : List Man) → t man ≡ true → count_by t (man ∷ men) ≡ 1 + count_by t men
counted_first t man men e = sum_by-cons (λ m. cond (t m) 1 0) man men ∙ ap (λ b. cond b 1 0 + count_by t men) e

counted_rest : (t : Man → Bool) (man : Man) (men : List Man) → count_by t men ≤ count_by t (man ∷ men)
counted_rest t man men = omega (arith, sum_by-cons (λ m. cond (t m) 1 0) man men)

counted_once : (t : Man → Bool) (men : List Man) (a : ℕ) (d : Man) → a < length men → t (get_or men a d) ≡ true → 1 ≤ count_by t men
counted_once t [] a d h e = omega (arith, h)
counted_once t (man ∷ men) zero d h e = omega (arith, counted_first t man men e)
counted_once t (man ∷ men) (suc a) d h e = omega (arith, counted_once t men a d (omega (arith, h)) e, counted_rest t man men)

counted_twice : (t : Man → Bool) (men : List Man) (a b : ℕ) (d : Man) → a < b → b < length men → t (get_or men a d) ≡ true → t (get_or men b d) ≡ true → 2 ≤ count_by t men
counted_twice t [] a b d below h e f = omega (arith, h)
counted_twice t (man ∷ men) a zero d below h e f = omega (arith, below)
counted_twice t (man ∷ men) zero (suc b) d below h e f = omega (arith, counted_once t men b d (omega (arith, h)) f, counted_first t man men e)
counted_twice t (man ∷ men) (suc a) (suc b) d below h e f =
    omega (arith, counted_twice t men a b d (omega (arith, below)) (omega (arith, h)) e f, counted_rest t man men)

-- a side has one king
one_of : (men : List Man) (man : Man) (a b : ℕ) → count_of man men ≡ 1 → a < length men → b < length men → stands men a man ≡ true → stands men b man ≡ true → a ≡ b
one_of men man a b one within_a within_b e f =
    let t : Man → Bool = λ m. same_man m man in
    elim (cases_lt a b) [
      | inl less ↦ let two = counted_twice t men a b Empty less within_b e f in omega (arith, one, two)
      | inr not_less ↦ elim (cases_lt b a) [
        | inl less ↦ let two = counted_twice t men b a Empty less within_a f e in omega (arith, one, two)
        | inr not_more ↦ omega (arith, not_less, not_more)
      ]
    ]

kings_of : (side : Side) (men : List Man) → has_kings men ≡ true → count_of (king_of side) men ≡ 1
kings_of White men e = eqb-true (count_of K men) 1 (and_parts (count_of K men == 1) (count_of BlackK men == 1) e).0
kings_of Black men e = eqb-true (count_of BlackK men) 1 (and_parts (count_of K men == 1) (count_of BlackK men == 1) e).1

-- a move of the piece and a rival of it
module _ (p : Board) (m : Move) (kept : IsPosition p) (q : Board) (legal : Legal p m q) (piece : is_pawn (man_at p.men m.from) ≡ false) (plain : is_castling p m ≡ false) where
  w : Moves p m
  w = what_moves p m (legal_passes p m q legal)

  own_man : man_of p.side (piece_of_man (man_at p.men m.from)) ≡ man_at p.men m.from
  own_man = man_back p.side (man_at p.men m.from) w.own

  -- a man that is no pawn promotes to nothing
  none_promoted : (n : Move) → Moves p n → man_at p.men n.from ≡ man_at p.men m.from → is_none n.promotion ≡ true
  none_promoted n v same = subst (λ t. cond t (pawn_promotion_is_right p.side n) (is_none n.promotion) ≡ true) (ap is_pawn same ∙ piece) v.promotes_so

  -- a king that castles has no rival
  no_castling : (n : Move) → Moves p n → n.from < 64 → m.from < 64 → man_at p.men n.from ≡ man_at p.men m.from → n.from ≢ m.from → not (is_castling p n) ≡ true
  no_castling n v from_n from_m same other =
      elim (cases_Bool (is_castling p n)) [
        | inr stays ↦ not_from_false (is_castling p n) stays
        | inl castles ↦
            let king = (and_parts (stands p.men n.from (king_of p.side)) (files_apart n.from n.to == 2) castles).0 in
            let mine : stands p.men m.from (king_of p.side) ≡ true = subst (λ man. same_man man (king_of p.side) ≡ true) same king in
            absurd (other (one_of p.men (king_of p.side) n.from m.from (kings_of p.side p.men kept.kings)
            (omega (arith, kept.whole, from_n)) (omega (arith, kept.whole, from_m)) king mine))
      ]

  abbrev of_rival : Move → Type 0
  of_rival n = (same_man (man_at p.men n.from) (man_at p.men m.from) ≡ true) × ((n.to == m.to) ≡ true) × (not (n.from == m.from) ≡ true)

  rival_parts : (n : Move) → is_rival p m n ≡ true → of_rival n
  rival_parts n e =
      let last = and_parts (same_man (man_at p.men n.from) (man_at p.men m.from) && (n.to == m.to)) (not (n.from == m.from)) e in
      let first = and_parts (same_man (man_at p.men n.from) (man_at p.men m.from)) (n.to == m.to) last.0 in
      (first.0, first.1, last.1)

  rival_from : (n : Move) → of_rival n → is_rival p m n ≡ true
  rival_from n t =
      and_from (same_man (man_at p.men n.from) (man_at p.men m.from) && (n.to == m.to)) (not (n.from == m.from))
      (and_from (same_man (man_at p.men n.from) (man_at p.men m.from)) (n.to == m.to) t.0 t.1) t.2

  elsewhere : (a b : ℕ) → not (a == b) ≡ true → a ≢ b
  elsewhere a b e is = false≢true (sym (ap not (eq-eqb a b is)) ∙ e)

  same_promotion : (a b : Promotion) → a ≡ b → is_same_promotion a b ≡ true
  same_promotion a b e = subst (λ x. is_same_promotion a x ≡ true) e (eq-eqb _ _ refl)

  -- the square of a rival is an origin of the same move
  rival_origin : (n : Move) → ((r : Board) × Legal p n r) → is_rival p m n ≡ true → Contains (origins p (without_origin p m)) n.from
  unfolding origins
  rival_origin n legal_n rival =
      let passes = legal_passes p n legal_n.0 legal_n.1 in
      let v = what_moves p n passes in
      let t = rival_parts n rival in
      let same = same_man-is (man_at p.men n.from) (man_at p.men m.from) t.0 in
      let goal = eqb-true n.to m.to t.1 in
      let from_n = (legal_on_board p n kept.whole passes).from in
      let from_m = (legal_on_board p m kept.whole (legal_passes p m q legal)).from in
      let promotion = both_none n.promotion m.promotion (none_promoted n v same) (none_promoted m w refl) in
      let is : move_from (without_origin p m) n.from ≡ n = same_move n (move_from (without_origin p m) n.from) refl (sym goal) (sym promotion) (sym v.null) in
      let agrees : agrees_in_parts p (without_origin p m) n ≡ true =
      five_from (stands p.men n.from (man_of p.side (piece_of_man (man_at p.men m.from)))) true true (n.to == m.to) (is_same_promotion n.promotion m.promotion)
      (same_man-itself (man_at p.men n.from) (man_of p.side (piece_of_man (man_at p.men m.from))) (same ∙ sym own_man)) refl refl t.1 (same_promotion n.promotion m.promotion promotion) in
      in_kept_squares (is_origin p (without_origin p m)) n.from from_n
      (subst (λ (x : Move). (agrees_in_parts p (without_origin p m) x && not (is_castling p x) && legal_test p x) ≡ true) (sym is)
      (and_from (agrees_in_parts p (without_origin p m) n && not (is_castling p n)) (legal_test p n)
      (and_from (agrees_in_parts p (without_origin p m) n) (not (is_castling p n)) agrees (no_castling n v from_n from_m same (elsewhere n.from m.from t.2))) passes))

  -- an origin of the same move on another square is a rival's
  origin_rival : (s : ℕ) → is_origin p (without_origin p m) s ≡ true → not (s == m.from) ≡ true → Contains (legal_list p) (move_from (without_origin p m) s) × (is_rival p m (move_from (without_origin p m) s) ≡ true)
  origin_rival s e other =
      let n = move_from (without_origin p m) s in
      let both = and_parts (agrees_in_parts p (without_origin p m) n && not (is_castling p n)) (legal_test p n) e in
      let agrees = (and_parts (agrees_in_parts p (without_origin p m) n) (not (is_castling p n)) both.0).0 in
      let five = five_parts (stands p.men s (man_of p.side (piece_of_man (man_at p.men m.from)))) true true (m.to == m.to) (is_same_promotion m.promotion m.promotion) agrees in
      let same = stands-is p.men s (man_of p.side (piece_of_man (man_at p.men m.from))) five.0 in (
        legal_is_listed p n kept.whole (after p n, test_leads p n both.1),
        rival_from n (same_man-itself (man_at p.men s) (man_at p.men m.from) (same ∙ own_man), eq-eqb m.to m.to refl, other),
      )

  -- so rivals of a kind are found among the squares
  module _ (u : ℕ → Bool) (t : Move → Bool) (v : ℕ → Bool) (t_is : (n : Move) → t n ≡ (is_rival p m n && u n.from)) (v_is : (s : ℕ) → v s ≡ (not (s == m.from) && u s)) where
    to_list : list_any v (origins p (without_origin p m)) ≡ true → list_any t (legal_list p) ≡ true
    unfolding origins
    to_list e =
        let found = Any-from_list_any v (filter (is_origin p (without_origin p m)) squares) e in
        let s = found.1 in
        let both = and_parts (not (s == m.from)) (u s) (sym (v_is s) ∙ found.4) in
        let passes = All-contains (λ x. is_origin p (without_origin p m) x ≡ true) (filter (is_origin p (without_origin p m)) squares) s
        (filter_passes (is_origin p (without_origin p m)) squares) (found.0, found.2, found.3) in
        let rival = origin_rival s passes both.0 in
        list_any-from_Any t (legal_list p) (
          rival.0.0,
          move_from (without_origin p m) s,
          rival.0.1,
          rival.0.2,
          t_is (move_from (without_origin p m) s)
              ∙ and_from (is_rival p m (move_from (without_origin p m) s)) (u s) rival.1 both.1,
        )

    to_squares : list_any t (legal_list p) ≡ true → list_any v (origins p (without_origin p m)) ≡ true
    to_squares e =
        let found = Any-from_list_any t (legal_list p) e in
        let n = found.1 in
        let both = and_parts (is_rival p m n) (u n.from) (sym (t_is n) ∙ found.4) in
        let there = rival_origin n (listed_is_legal p n (found.0, found.2, found.3)) both.0 in
        list_any-from_Any v (origins p (without_origin p m)) (there.0, n.from, there.1, there.2, v_is n.from ∙ and_from (not (n.from == m.from)) (u n.from) (rival_parts n both.0).2 both.1)

    by_squares : list_any v (origins p (without_origin p m)) ≡ list_any t (legal_list p)
    by_squares = same_test (list_any v (origins p (without_origin p m))) (list_any t (legal_list p)) to_list to_squares

  and_true : (b : Bool) → b ≡ (b && true)
  and_true true = refl
  and_true false = refl

  pub any_by_squares : list_any (is_elsewhere m.from) (origins p (without_origin p m)) ≡ list_any (is_rival p m) (legal_list p)
  any_by_squares = by_squares (λ s. true) (is_rival p m) (is_elsewhere m.from) (λ n. and_true (is_rival p m n)) (λ s. and_true (not (s == m.from)))

  pub file_by_squares : list_any (is_elsewhere_on_file m.from) (origins p (without_origin p m)) ≡ list_any (on_file p m) (legal_list p)
  file_by_squares = by_squares (λ s. file_of m.from == file_of s) (on_file p m) (is_elsewhere_on_file m.from) (λ n. refl) (λ s. refl)

  pub rank_by_squares : list_any (is_elsewhere_on_rank m.from) (origins p (without_origin p m)) ≡ list_any (on_rank p m) (legal_list p)
  rank_by_squares = by_squares (λ s. rank_of m.from == rank_of s) (on_rank p m) (is_elsewhere_on_rank m.from) (λ n. refl) (λ s. refl)
