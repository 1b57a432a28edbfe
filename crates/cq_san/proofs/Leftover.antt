-- The origins among the squares of a set that are still to be tested.
use Rattle.std.proofs.Common.{◌≡◌, ◌≢◌, ℕ, ◌^◌, ◌<◌, Bool, true, false, not, ◌&&◌, cond, List, [], ◌∷◌, ◌++◌, length, refl, sym, ap, ◌∙◌, arith, inl, inr, map, Option, Some, None, Err}
use Rattle.std.specs.List.{All, filter, list_any}
use Rattle.std.specs.Option.{is_some, option_to_list}
use Rattle.std.specs.Int.{bit_at, trailing_zeros, w64}
use Rattle.std.proofs.lemmas.Bool.{cases_Bool, and_parts, and_from, false_from_ne_true, eq-eqb, eqb-false, false≢true}
use Rattle.std.proofs.lemmas.List.{append_assoc, append-nil, length-append}
use Rattle.std.proofs.lemmas.List.Elements.{All-head, All-tail, All-weaker}
use Rattle.cq_geometry.specs.Squares.{squares}
use Rattle.cq_geometry.proofs.Board.{squares_board}
use Rattle.cq_position.specs.Board.{Board, stands}
use Rattle.cq_square_sets.specs.Bitboards.{IsBitboard, bit_of}
use Rattle.cq_square_sets.proofs.Marked.{marks_and}
use Rattle.cq_position.specs.Attacks.{is_occupied}
use Rattle.cq_position.specs.Men.{man_of}
use Rattle.std.proofs.lemmas.Nat.Bits.{bit_at_clear_other, bit_at-zero}
use Rattle.std.specs.Prelude.{bit_and, nat_lt, ◌==◌}
use Rattle.cq_position.specs.Legal.{reaches, is_castling, is_pseudo_legal, promotion_is_right}
use Rattle.cq_position.specs.Legality.{legal_test, is_safe}
use Rattle.cq_moves.specs.Candidates.{may_come}
use Rattle.cq_moves.proofs.Bits.{set_squares, has_bit, cleared, first_square, no_squares}
use Rattle.cq_moves.proofs.Origins.{reached_comes}
use Rattle.cq_position.specs.declared.moves.Move.{Move}
use Rattle.cq_san.specs.declared.fault.SanFault.TheVariants.{AmbiguousMove}
use Rattle.cq_san.specs.declared.parts.PieceMove.{PieceMove}
use Rattle.cq_san.specs.Fits.{agrees_in_parts}
use Rattle.cq_san.specs.Internal.Origins.{move_from, is_origin, origins}
use Rattle.cq_san.specs.Reading.{only}
use Rattle.cq_san.proofs.Candidates.{so_far-room, so_far-end}

kept_of_rest : (test : ℕ → Bool) (mask : ℕ) (xs : List ℕ) → All (λ s. has_bit mask s ≡ false → test s ≡ false) xs
    → filter test (filter (has_bit mask) xs) ≡ filter test xs
kept_of_rest test mask [] h = refl
kept_of_rest test mask (x ∷ xs) h =
    let rest = kept_of_rest test mask xs (All-tail (λ s. has_bit mask s ≡ false → test s ≡ false) x xs h) in
    elim (cases_Bool (has_bit mask x)) [
      | inl e ↦ rw (e, rest) refl
      | inr e ↦ rw (e, rest, All-head (λ s. has_bit mask s ≡ false → test s ≡ false) x xs h e) refl
    ]

-- the squares found and the squares left are the whole
pub record IsFound (test : ℕ → Bool) (found : List ℕ) (mask : ℕ) : Type 0 where
  pub rest : found ++ filter test (set_squares mask) ≡ filter test squares

pub found-start : (test : ℕ → Bool) (mask : ℕ) → ((s : ℕ) → s < 64 → has_bit mask s ≡ false → test s ≡ false) → IsFound test [] mask
unfolding set_squares
found-start test mask none =
    record { rest = kept_of_rest test mask squares (All-weaker (λ s. s < 64) (λ s. has_bit mask s ≡ false → test s ≡ false) none squares squares_board) }

pub found-with : (test : ℕ → Bool) (found : List ℕ) (mask square bit : ℕ) → 0 < mask → mask < 2 ^ 64 → square ≡ trailing_zeros w64 mask → bit ≡ square
    → test square ≡ true → IsFound test found mask → IsFound test (found ++ square ∷ []) (cleared mask bit)
found-with test found mask square bit some fits e f passes r = record {
  rest =
      append_assoc found (square ∷ []) (filter test (set_squares (cleared mask bit)))
      ∙ ap (λ xs. found ++ xs) (sym (ap (filter test) (first_square mask square bit some fits e f)
      ∙ ap (λ t. cond t (square ∷ filter test (set_squares (cleared mask bit))) (filter test (set_squares (cleared mask bit)))) passes))
      ∙ r.rest;
}

pub found-without : (test : ℕ → Bool) (found : List ℕ) (mask square bit : ℕ) → 0 < mask → mask < 2 ^ 64 → square ≡ trailing_zeros w64 mask → bit ≡ square
    → test square ≡ false → IsFound test found mask → IsFound test found (cleared mask bit)
found-without test found mask square bit some fits e f fails r = record {
  rest =
      ap (λ xs. found ++ xs) (sym (ap (filter test) (first_square mask square bit some fits e f)
      ∙ ap (λ t. cond t (square ∷ filter test (set_squares (cleared mask bit))) (filter test (set_squares (cleared mask bit)))) fails))
      ∙ r.rest;
}

pub found-end : (test : ℕ → Bool) (found : List ℕ) (mask : ℕ) → mask ≡ 0 → IsFound test found mask → found ≡ filter test squares
found-end test found mask e r = sym (append-nil found) ∙ ap (λ xs. found ++ filter test xs) (sym (ap set_squares e ∙ no_squares)) ∙ r.rest

pub found-room : (test : ℕ → Bool) (found : List ℕ) (mask square : ℕ) → 0 < mask → mask < 2 ^ 64 → square ≡ trailing_zeros w64 mask → test square ≡ true
    → IsFound test found mask → length found < 64
found-room test found mask square some fits e passes r =
    let more = (found-with test found mask square square some fits e refl passes r).rest in
    let few = so_far-room test 64 in
    let all = ap length (so_far-end test 64 (omega arith)) in
    omega (arith, few, all, ap length more, length-append (found ++ square ∷ []) (filter test (set_squares (cleared mask square))), length-append found (square ∷ []))

-- of one origin that is found the next makes a second, and of none it makes the first
pub second-found : (f : ℕ → Move) (test : ℕ → Bool) (found : Option ℕ) (mask square : ℕ) → is_some found ≡ true → 0 < mask → mask < 2 ^ 64
    → square ≡ trailing_zeros w64 mask → test square ≡ true → IsFound test (option_to_list found) mask
    → Err AmbiguousMove ≡ only (map f (filter test squares))
second-found f test None mask square one some fits e passes r = absurd (false≢true one)
second-found f test (Some x) mask square one some fits e passes r =
    ap (λ xs. only (map f xs)) (found-with test (x ∷ []) mask square square some fits e refl passes r).rest

pub first-found : (test : ℕ → Bool) (found : Option ℕ) (mask square bit : ℕ) → is_some found ≡ false → 0 < mask → mask < 2 ^ 64
    → square ≡ trailing_zeros w64 mask → bit ≡ square → test square ≡ true → IsFound test (option_to_list found) mask
    → IsFound test (square ∷ []) (cleared mask bit)
first-found test None mask square bit none some fits e f passes r = found-with test [] mask square bit some fits e f passes r
first-found test (Some x) mask square bit none some fits e f passes r = absurd (false≢true (sym none))

-- a legal move goes where its man reaches
legal_reaches : (p : Board) (parts : PieceMove) (s : ℕ) → legal_test p (move_from parts s) ≡ true → reaches p s parts.goal ≡ true
unfolding legal_test is_pseudo_legal
legal_reaches p parts s e =
    (and_parts (not (move_from parts s).null && nat_lt parts.goal 64) (reaches p s parts.goal)
    (and_parts (not (move_from parts s).null && nat_lt parts.goal 64 && reaches p s parts.goal) (promotion_is_right p (move_from parts s))
    (and_parts (is_pseudo_legal p (move_from parts s)) (is_safe p (move_from parts s)) e).0).0).1

pub first_of_five : (a b c d e : Bool) → (a && b && c && d && e) ≡ true → a ≡ true
first_of_five a b c d e h = (and_parts a b (and_parts (a && b) c (and_parts (a && b && c) d (and_parts (a && b && c && d) e h).0).0).0).0

-- an origin is among the squares from which the piece may come, and such a piece stands there
pub origin_comes : (p : Board) (parts : PieceMove) (mask there : ℕ) → parts.goal < 64
    → IsBitboard mask (may_come p.side parts.piece (is_occupied p.men) parts.goal) → IsBitboard there (λ s. stands p.men s (man_of p.side parts.piece))
    → (s : ℕ) → s < 64 → has_bit (bit_and mask there) s ≡ false → is_origin p parts s ≡ false
origin_comes p parts mask there low m n s h clear =
    false_from_ne_true (is_origin p parts s) (λ e.
    let both = and_parts (agrees_in_parts p parts (move_from parts s) && not (is_castling p (move_from parts s))) (legal_test p (move_from parts s)) e in
    let agrees = (and_parts (agrees_in_parts p parts (move_from parts s)) (not (is_castling p (move_from parts s))) both.0).0 in
    let stood = first_of_five _ _ _ _ _ agrees in
    let comes = reached_comes p s parts.goal h low parts.piece stood (legal_reaches p parts s both.1) in
    let set : bit_at (bit_and mask there) s ≡ 1 = (marks_and mask there _ _ m n).bit s h ∙ ap bit_of (and_from _ _ comes stood) in
    let bad : false ≡ true = sym clear ∙ eq-eqb (bit_at (bit_and mask there) s) 1 set in
    cc)

-- if no bit but one is set, no other square is in the set
lone_bit : (mask bit s : ℕ) → bit < 64 → s < 64 → s ≢ bit → cleared mask bit ≡ 0 → has_bit mask s ≡ false
lone_bit mask bit s within h other empty =
    ap (λ n. n == 1) (sym (bit_at_clear_other w64 mask bit within s h other) ∙ ap (λ n. bit_at n s) empty ∙ bit_at-zero s)

-- no square but one is an origin
abbrev pub IsLone : Board → PieceMove → ℕ → Type 0
IsLone p parts from = (s : ℕ) → s < 64 → (s == from) ≡ false → is_origin p parts s ≡ false

-- so no other square is an origin
pub none_elsewhere : (p : Board) (parts : PieceMove) (mask there bit from : ℕ) → parts.goal < 64 → bit < 64
    → IsBitboard mask (may_come p.side parts.piece (is_occupied p.men) parts.goal)
    → IsBitboard there (λ s. stands p.men s (man_of p.side parts.piece)) → bit ≡ from → cleared (bit_and mask there) bit ≡ 0 → IsLone p parts from
none_elsewhere p parts mask there bit from low within m n same empty = λ s h other.
    origin_comes p parts mask there low m n s h
    (lone_bit (bit_and mask there) bit s within h (λ e. eqb-false s from other (e ∙ same)) empty)

-- a test of the origins that fails where they may be
pub none_kept : (v t : ℕ → Bool) (xs : List ℕ) → All (λ s. v s ≡ true → t s ≡ false) xs → list_any v (filter t xs) ≡ false
none_kept v t [] h = refl
none_kept v t (x ∷ xs) h =
    let rest = none_kept v t xs (All-tail (λ s. v s ≡ true → t s ≡ false) x xs h) in
    elim (cases_Bool (t x)) [
      | inl e ↦
          let fails = false_from_ne_true (v x) (λ set. false≢true (sym (All-head (λ s. v s ≡ true → t s ≡ false) x xs h set) ∙ e)) in
          rw (e, rest, fails) refl
      | inr e ↦ rw (e, rest) refl
    ]

-- a test of other squares than one passes at no origin where no other square is one
pub none_other : (p : Board) (parts : PieceMove) (from : ℕ) (v : ℕ → Bool) → ((s : ℕ) → v s ≡ true → (s == from) ≡ false)
    → IsLone p parts from → list_any v (origins p parts) ≡ false
unfolding origins
none_other p parts from v elsewhere none =
    none_kept v (is_origin p parts) squares
    (All-weaker (λ s. s < 64) (λ s. v s ≡ true → is_origin p parts s ≡ false) (λ s h e. none s h (elsewhere s e)) squares squares_board)
