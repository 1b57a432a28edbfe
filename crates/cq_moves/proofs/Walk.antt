-- The candidates of a man have all its legal moves.
use Rattle.std.proofs.Common.{◌≡◌, ℕ, ◌*◌, ◌%◌, ◌^◌, ◌<◌, Bool, true, false, ◌==◌, refl, List, [], ◌∷◌, ◌++◌, sym, ap, ◌∙◌, arith}
use Rattle.std.specs.List.{list_any}
use Rattle.std.specs.Int.{bit_at, bit_not, trailing_zeros, w64}
use Rattle.std.proofs.lemmas.Nat.Bits.{bit_at-trailing_zeros}
use Rattle.std.proofs.lemmas.Bool.{eq-eqb}
use Rattle.std.proofs.lemmas.List.Elements.{All-weaker}
use Rattle.cq_geometry.specs.Squares.{squares}
use Rattle.cq_geometry.proofs.Board.{squares_board}
use Rattle.cq_position.specs.declared.men.Promotion.TheVariants.{None as NoPromotion}
use Rattle.cq_position.specs.declared.moves.Move.{Move}
use Rattle.cq_position.specs.Board.{Board, man_at}
use Rattle.cq_position.specs.Men.{is_of_side}
use Rattle.cq_square_sets.specs.Bitboards.{IsBitboard, bit_of}
use Rattle.cq_square_sets.proofs.Bits.{in_both}
use Rattle.cq_position.specs.Legal.{reaches}
use Rattle.cq_position.specs.Legality.{legal_test}
use Rattle.cq_moves.specs.LegalMoves.{move_of, all_moves, moves_from, moves_between, legal_list, legal_from, legal_between}
use Rattle.cq_moves.specs.Internal.Mover.{IsPlain}
use Rattle.cq_moves.proofs.Bits.{lowest_below, has_bit, cleared, set_squares, IsPartly, parts_of_set, any_of_set}
use Rattle.cq_moves.proofs.Room.{none_from_other, other_has_none}
use Rattle.cq_moves.proofs.Parts.{legal_list_parts, any_parts, legal_from_parts, none_between_unreached, any_from_parts, unreached_has_none}

-- a square that a set lacks fails its test
unset : (test : ℕ → Bool) (mask s : ℕ) → IsBitboard mask test → s < 64 → has_bit mask s ≡ false → test s ≡ false
unset test mask s m h clear = not_set (test s) (m.bit s h)
  where
    not_set : (b : Bool) → bit_at mask s ≡ bit_of b → b ≡ false
    not_set true e = let bad : false ≡ true = sym clear ∙ eq-eqb (bit_at mask s) 1 e in absurd (cc)
    not_set false e = refl

pub walk_begins : (p : Board) (mask a : ℕ) (found : List Move) → IsBitboard mask (reaches p a)
    → IsPartly (legal_between p a) (found ++ legal_from p a) found mask
walk_begins p mask a found m =
    let none = All-weaker (λ s. s < 64) (λ s. (bit_at mask s == 1) ≡ false → legal_between p a s ≡ [])
    (λ s h clear. none_between_unreached p a s h (unset (reaches p a) mask s m h clear)) squares squares_board in
    record { rest = ap (λ xs. found ++ xs) (parts_of_set (legal_between p a) mask none ∙ sym (legal_from_parts p a)) }

pub any_begins : (p : Board) (mask a : ℕ) → IsBitboard mask (reaches p a)
    → list_any (λ b. list_any (legal_test p) (moves_between a b)) (set_squares mask) ≡ list_any (legal_test p) (moves_from a)
any_begins p mask a m =
    let test = λ (b : ℕ). list_any (legal_test p) (moves_between a b) in
    let none = All-weaker (λ s. s < 64) (λ s. (bit_at mask s == 1) ≡ false → test s ≡ false)
    (λ s h clear. unreached_has_none p a s h (unset (reaches p a) mask s m h clear)) squares squares_board in
    any_of_set test mask none ∙ sym (any_from_parts p a)

-- the man goes to each square that is left
pub record AreReached (p : Board) (a mask : ℕ) : Type 0 where
  pub each : (b : ℕ) → b < 64 → bit_at mask b ≡ 1 → reaches p a b ≡ true

pub reached_begins : (p : Board) (mask a : ℕ) → IsBitboard mask (reaches p a) → AreReached p a mask
reached_begins p mask a m = record { each = λ b h set. is_set (reaches p a b) (sym (m.bit b h) ∙ set) }
  where
    is_set : (t : Bool) → bit_of t ≡ 1 → t ≡ true
    is_set true e = refl
    is_set false e = absurd (cc)

pub reached_on : (p : Board) (a mask bit : ℕ) → AreReached p a mask → AreReached p a (cleared mask bit)
reached_on p a mask bit r = record { each = λ b h set. r.each b h (in_both mask (bit_not w64 (1 * 2 ^ bit % 2 ^ 64)) b set).0 }

pub reached_first : (p : Board) (a mask square : ℕ) → 0 < mask → mask < 2 ^ 64 → square ≡ trailing_zeros w64 mask
    → AreReached p a mask → reaches p a square ≡ true
reached_first p a mask square some fits e r =
    let found = bit_at-trailing_zeros w64 mask some fits in
    ap (reaches p a) e ∙ r.each (trailing_zeros w64 mask) found.0 found.1

-- the one move to the lowest square that is left, of a man each of whose moves is legal
pub only_there : (p : Board) (a mask square : ℕ) → 0 < mask → mask < 2 ^ 64 → square ≡ trailing_zeros w64 mask → IsPlain p a
    → AreReached p a mask → legal_between p a square ≡ move_of a square NoPromotion ∷ []
only_there p a mask square some fits e plain r =
    let below : square < 64 = omega (arith, e, lowest_below mask some fits) in
    plain.only square below (reached_first p a mask square some fits e r)

-- a walk over the squares to which a man goes
pub record IsWalk (p : Board) (a : ℕ) (whole found : List Move) (mask : ℕ) : Type 0 where
  pub partly : IsPartly (legal_between p a) whole found mask
  pub goes : AreReached p a mask

-- whoever is not of the side to move has no legal moves
aside : (p : Board) (mask s : ℕ) → IsBitboard mask (λ k. is_of_side p.side (man_at p.men k)) → s < 64 → has_bit mask s ≡ false
    → is_of_side p.side (man_at p.men s) ≡ false
aside p mask s m h clear = unset (λ k. is_of_side p.side (man_at p.men k)) mask s m h clear

pub side_walk_begins : (p : Board) (mask : ℕ) → IsBitboard mask (λ k. is_of_side p.side (man_at p.men k)) → IsPartly (legal_from p) (legal_list p) [] mask
side_walk_begins p mask m =
    let none = All-weaker (λ s. s < 64) (λ s. (bit_at mask s == 1) ≡ false → legal_from p s ≡ [])
    (λ s h clear. none_from_other p s (aside p mask s m h clear)) squares squares_board in
    record { rest = parts_of_set (legal_from p) mask none ∙ sym (legal_list_parts p) }

pub side_any_begins : (p : Board) (mask : ℕ) → IsBitboard mask (λ k. is_of_side p.side (man_at p.men k))
    → list_any (λ a. list_any (legal_test p) (moves_from a)) (set_squares mask) ≡ list_any (legal_test p) all_moves
side_any_begins p mask m =
    let test = λ (a : ℕ). list_any (legal_test p) (moves_from a) in
    let none = All-weaker (λ s. s < 64) (λ s. (bit_at mask s == 1) ≡ false → test s ≡ false)
    (λ s h clear. other_has_none p s (aside p mask s m h clear)) squares squares_board in
    any_of_set test mask none ∙ sym (any_parts p)
