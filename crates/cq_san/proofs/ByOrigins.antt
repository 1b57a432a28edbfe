-- The result for the parts of a text, by the origins of the move, and for castling.
use Rattle.std.proofs.Common.{◌≡◌, ℕ, ◌<◌, Bool, true, false, not, ◌&&◌, map, length, refl, sym, ap, subst, ◌∙◌, inl, inr}
use Rattle.std.specs.List.{AllPairs, Contains, filter}
use Rattle.std.proofs.lemmas.Bool.{and_parts, and_from, not-true, not_from_false, false≢true}
use Rattle.std.proofs.lemmas.List.Elements.{filter_passes, All-contains, All-map, All-weaker}
use Rattle.std.proofs.lemmas.List.Kept.{AllPairs-from_increasing}
use Rattle.cq_geometry.specs.Squares.{squares}
use Rattle.cq_geometry.proofs.Board.{in_kept_squares, kept_squares_rise}
use Rattle.cq_position.specs.declared.men.Promotion.TheVariants.{None as NoPromotion}
use Rattle.cq_position.specs.declared.men.Side.{Side}
use Rattle.cq_position.specs.declared.moves.Move.{Move}
use Rattle.cq_position.specs.Board.{Board}
use Rattle.cq_position.specs.Legal.{Legal, after, is_castling, castling_goal}
use Rattle.cq_position.specs.Legality.{legal_test}
use Rattle.cq_moves.specs.LegalMoves.{Precedes}
use Rattle.cq_moves.proofs.Lists.{Contains-map, AllPairs-map}
use Rattle.cq_moves.proofs.Castled.{castling_squares}
use Rattle.cq_moves.proofs.Law.{what_moves, legal_on_board}
use Rattle.cq_position.proofs.Legality.{legal_passes, test_leads}
use Rattle.cq_san.specs.declared.parts.PieceMove.{PieceMove}
use Rattle.cq_san.specs.declared.parts.Parts.TheVariants.{Castling, Moved}
use Rattle.cq_san.specs.Fits.{agrees, agrees_in_parts, goes_right, Fits}
use Rattle.cq_san.specs.Internal.Origins.{move_from, is_origin, origins, castling_move}
use Rattle.cq_san.specs.Reading.{IsMeaningOfParts, IsMeant, IsIllegal, only}
use Rattle.cq_san.proofs.Alone.{agrees_so, null_fails, same_move, both_none, castles_so, agrees_castling, castling_meant}
use Rattle.cq_san.proofs.Meaning.{answer_of}

-- a move that agrees with the parts of a move is no null move and no castling, and agrees part by part
agrees_as : (p : Board) (parts : PieceMove) (m : Move) → agrees p (Moved parts) m ≡ true → (m.null ≡ false) × (not (is_castling p m) ≡ true) × (agrees_in_parts p parts m ≡ true)
unfolding agrees
agrees_as p parts m e =
    let both = and_parts (not m.null && not (is_castling p m)) (agrees_in_parts p parts m) e in
    let first = and_parts (not m.null) (not (is_castling p m)) both.0 in
    (not-true m.null first.0, first.1, both.1)

agrees_from : (p : Board) (parts : PieceMove) (m : Move) → m.null ≡ false → not (is_castling p m) ≡ true → agrees_in_parts p parts m ≡ true → agrees p (Moved parts) m ≡ true
unfolding agrees
agrees_from p parts m null plain e =
    and_from (not m.null && not (is_castling p m)) (agrees_in_parts p parts m) (and_from (not m.null) (not (is_castling p m)) (not_from_false m.null null) plain) e

module _ (p : Board) (parts : PieceMove) (long : length p.men ≡ 64) where
  -- a move that fits comes from one of the squares
  fits_from : (m : Move) → Fits p (Moved parts) m → Contains (map (move_from parts) (origins p parts)) m
  unfolding origins
  fits_from m f = elim f.leads [
    | inl legal ↦
        let passes = legal_passes p m f.next legal in
        let a = agrees_as p parts m f.agree in
        let so = agrees_so p parts m f.agree in
        let same : move_from parts m.from ≡ m = same_move m (move_from parts m.from) refl (sym so.goal) (sym so.promotion) (sym a.0) in
        let is : is_origin p parts m.from ≡ true =
        subst (λ (n : Move). (agrees_in_parts p parts n && not (is_castling p n) && legal_test p n) ≡ true) (sym same)
        (and_from (agrees_in_parts p parts m && not (is_castling p m)) (legal_test p m) (and_from (agrees_in_parts p parts m) (not (is_castling p m)) a.2 a.1) passes) in
        subst (λ (n : Move). Contains (map (move_from parts) (filter (is_origin p parts) squares)) n) same
        (Contains-map (move_from parts) (filter (is_origin p parts) squares) m.from
        (in_kept_squares (is_origin p parts) m.from (legal_on_board p m long passes).from is))
    | inr pass ↦ absurd (null_fails p parts m pass.null f.agree)
  ]

  origin_fits : (s : ℕ) → is_origin p parts s ≡ true → Fits p (Moved parts) (move_from parts s)
  origin_fits s e =
      let m = move_from parts s in
      let both = and_parts (agrees_in_parts p parts m && not (is_castling p m)) (legal_test p m) e in
      let first = and_parts (agrees_in_parts p parts m) (not (is_castling p m)) both.0 in
      record { next = after p m; leads = inl (test_leads p m both.1); agree = agrees_from p parts m refl first.1 first.0 }

  from_fits : (m : Move) → Contains (map (move_from parts) (origins p parts)) m → Fits p (Moved parts) m
  unfolding origins
  from_fits m c =
      All-contains (Fits p (Moved parts)) (map (move_from parts) (filter (is_origin p parts) squares)) m
      (All-map (Fits p (Moved parts)) (move_from parts) (filter (is_origin p parts) squares)
      (All-weaker (λ s. is_origin p parts s ≡ true) (λ s. Fits p (Moved parts) (move_from parts s)) origin_fits
      (filter (is_origin p parts) squares) (filter_passes (is_origin p parts) squares))) c

  in_order : AllPairs Precedes (map (move_from parts) (origins p parts))
  unfolding origins
  in_order =
      let rise : AllPairs (λ x y. x < y) (filter (is_origin p parts) squares) = AllPairs-from_increasing (filter (is_origin p parts) squares) (kept_squares_rise (is_origin p parts)) in
      AllPairs-map Precedes (move_from parts) (filter (is_origin p parts) squares) (λ i j d before below. inl (rise i j d before below))

  pub by_origins : IsMeaningOfParts p (Moved parts) (only (map (move_from parts) (origins p parts)))
  by_origins = answer_of p (Moved parts) (map (move_from parts) (origins p parts)) fits_from from_fits in_order

-- castling is the one move of the king two files aside
module _ (p : Board) (kingside : Bool) (side : Side) (m : Move) (of_mover : side ≡ p.side) (made : m ≡ castling_move side kingside) where
  made_so : m ≡ castling_move p.side kingside
  made_so = made ∙ ap (λ s. castling_move s kingside) of_mover

  pub castled : is_castling p m ≡ true → ((q : Board) × Legal p m q) → IsMeant p (Castling kingside) m
  castled castling legal =
      let way : goes_right m ≡ kingside = ap goes_right made_so ∙ (castling_squares p.side kingside).way in
      subst (λ k. IsMeant p (Castling k) m) way (castling_meant p m legal.0 legal.1 (what_moves p m (legal_passes p m legal.0 legal.1)) castling)

  pub not_castled : (is_castling p m ≡ true → ((q : Board) × Legal p m q) → ⊥) → IsIllegal p (Castling kingside)
  not_castled none = record {
    none_fits = λ n f. elim f.leads [
      | inl legal ↦
          let a = agrees_castling p n kingside f.agree in
          let so = castles_so p n (what_moves p n (legal_passes p n f.next legal)) a.1 in
          let is : n ≡ castling_move p.side kingside =
          same_move (castling_move p.side kingside) n so.from (so.to ∙ ap (λ k. castling_goal p.side k) a.2) (both_none n.promotion NoPromotion so.promotion refl) a.0 in
          let same : n ≡ m = is ∙ sym made_so in
          none (subst (λ (x : Move). is_castling p x ≡ true) same a.1) (f.next, subst (λ (x : Move). Legal p x f.next) same legal)
      | inr pass ↦ false≢true (sym (agrees_castling p n kingside f.agree).0 ∙ ap (λ (x : Move). x.null) pass.null)
    ];
  }
