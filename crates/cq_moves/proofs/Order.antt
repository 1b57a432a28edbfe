-- The list of all moves: its elements, and its order.
use Rattle.std.proofs.Common.{◌≡◌, ℕ, zero, suc, ◌<◌, true, false, map, length, refl, inl, inr, sym, ap, ◌∙◌, subst, arith, lit<}
use Rattle.std.specs.List.{All, AllPairs, Contains, list_any}
use Rattle.std.specs.List.Sorted.{IsStrictlyIncreasing}
use Rattle.std.proofs.lemmas.List.Elements.{All-map, All-weaker, All-contains, filter_passes}
use Rattle.std.proofs.lemmas.List.Folds.{Any-from_list_any, list_any-from_Any}
use Rattle.std.proofs.lemmas.List.Kept.{AllPairs-from_increasing, AllPairs-filter}
use Rattle.cq_geometry.specs.Squares.{squares}
use Rattle.cq_geometry.proofs.Board.{squares_rise, squares_board, in_squares, contains_filter}
use Rattle.cq_position.specs.declared.men.Promotion.{Promotion}
use Rattle.cq_position.specs.declared.men.Promotion.TheVariants.{None as NoPromotion, Q as ToQueen, R as ToRook, B as ToBishop, N as ToKnight}
use Rattle.cq_position.specs.declared.moves.Move.{Move}
use Rattle.cq_position.specs.Board.{Board}
use Rattle.cq_position.specs.Legal.{Legal, after}
use Rattle.cq_position.specs.Legality.{legal_test}
use Rattle.cq_position.specs.Men.{promotion_number}
use Rattle.cq_moves.specs.LegalMoves.{promotions, move_of, moves_between, moves_from, all_moves, legal_list, Precedes}
use Rattle.cq_moves.specs.Mate.{HasLegalMove}
use Rattle.cq_moves.proofs.Lists.{All-flat_map, AllPairs-flat_map, AllPairs-map, AllPairs-by_number, Contains-map, Contains-flat_map}
use Rattle.cq_position.proofs.Legality.{legal_passes, test_leads}
use Rattle.cq_moves.proofs.Law.{IsOnBoard, legal_on_board, what_moves}

abbrev GoesFrom : ℕ → Move → Type 0
GoesFrom a m = m.from ≡ a

abbrev GoesBetween : ℕ → ℕ → Move → Type 0
GoesBetween a b m = (m.from ≡ a) × (m.to ≡ b)

numbers_rise : IsStrictlyIncreasing (map promotion_number promotions)
numbers_rise zero h = lit< tt
numbers_rise (suc zero) h = lit< tt
numbers_rise (suc (suc zero)) h = lit< tt
numbers_rise (suc (suc (suc zero))) h = lit< tt
numbers_rise (suc (suc (suc (suc k)))) h = absurd (omega (arith, h))

promotions_in_order : AllPairs (λ x y. promotion_number x < promotion_number y) promotions
promotions_in_order = AllPairs-by_number promotion_number promotions numbers_rise

between_in_order : (a b : ℕ) → AllPairs Precedes (moves_between a b)
between_in_order a b =
    AllPairs-map Precedes (move_of a b) promotions
    (λ i j d before below. inr (refl, inr (refl, promotions_in_order i j d before below)))

squares_in_order : AllPairs (λ x y. x < y) squares
squares_in_order = AllPairs-from_increasing squares squares_rise

between_goes : (a b : ℕ) → All (GoesBetween a b) (moves_between a b)
between_goes a b = All-map (GoesBetween a b) (move_of a b) promotions (λ k d h. (refl, refl))

pub from_goes : (a : ℕ) → All (GoesFrom a) (moves_from a)
unfolding moves_from
from_goes a =
    All-flat_map (GoesFrom a) (λ b. b < 64) (moves_between a)
    (λ b h. All-weaker (GoesBetween a b) (GoesFrom a) (λ m both. both.0) (moves_between a b) (between_goes a b)) squares squares_board

from_in_order : (a : ℕ) → AllPairs Precedes (moves_from a)
unfolding moves_from
from_in_order a =
    AllPairs-flat_map (λ x y. x < y) (GoesBetween a) Precedes (moves_between a) (between_goes a) (between_in_order a)
    (λ x y m n rises h k. inr (h.0 ∙ sym k.0, inl (omega (arith, rises, h.1, k.1)))) squares squares_in_order

all_in_order : AllPairs Precedes all_moves
unfolding all_moves
all_in_order =
    AllPairs-flat_map (λ x y. x < y) GoesFrom Precedes moves_from from_goes from_in_order
    (λ x y m n rises h k. inl (omega (arith, rises, h, k))) squares squares_in_order

pub legal_in_order : (p : Board) → AllPairs Precedes (legal_list p)
unfolding legal_list
legal_in_order p = AllPairs-filter Precedes (legal_test p) all_moves all_in_order

in_promotions : (choice : Promotion) → Contains promotions choice
in_promotions NoPromotion = (0, lit< tt, refl)
in_promotions ToQueen = (1, lit< tt, refl)
in_promotions ToRook = (2, lit< tt, refl)
in_promotions ToBishop = (3, lit< tt, refl)
in_promotions ToKnight = (4, lit< tt, refl)

in_between : (m : Move) → IsOnBoard m → Contains (moves_between m.from m.to) m
in_between m h =
    let same : move_of m.from m.to m.promotion ≡ m =
    ap (λ n. record { from = m.from; to = m.to; promotion = m.promotion; null = n }) (sym h.null) in
    subst (λ (n : Move). Contains (moves_between m.from m.to) n) same
    (Contains-map (move_of m.from m.to) promotions m.promotion (in_promotions m.promotion))

in_all : (m : Move) → IsOnBoard m → Contains all_moves m
unfolding all_moves moves_from
in_all m h =
    Contains-flat_map moves_from squares m.from m (in_squares m.from h.from)
    (Contains-flat_map (moves_between m.from) squares m.to m (in_squares m.to h.to) (in_between m h))

pub none_is_null : (p : Board) → All (λ m. m.null ≡ false) (legal_list p)
unfolding legal_list
none_is_null p =
    All-weaker (λ m. legal_test p m ≡ true) (λ m. m.null ≡ false) (λ m h. (what_moves p m h).null)
    (legal_list p) (filter_passes (legal_test p) all_moves)

-- the list holds exactly the legal moves
pub listed_is_legal : (p : Board) (m : Move) → Contains (legal_list p) m → (q : Board) × Legal p m q
unfolding legal_list
listed_is_legal p m h =
    (after p m, test_leads p m (All-contains (λ n. legal_test p n ≡ true) (legal_list p) m (filter_passes (legal_test p) all_moves) h))

pub legal_is_listed : (p : Board) (m : Move) → length p.men ≡ 64 → (q : Board) × Legal p m q → Contains (legal_list p) m
unfolding legal_list
legal_is_listed p m long l =
    let passes = legal_passes p m l.0 l.1 in
    contains_filter (legal_test p) all_moves m (in_all m (legal_on_board p m long passes)) passes

-- a move passes the test exactly where there is a legal move
pub passing_is_legal : (p : Board) → list_any (legal_test p) all_moves ≡ true → HasLegalMove p
passing_is_legal p h =
    let found = Any-from_list_any (legal_test p) all_moves h in
    (found.1, after p found.1, test_leads p found.1 found.4)

pub legal_is_passing : (p : Board) → length p.men ≡ 64 → HasLegalMove p → list_any (legal_test p) all_moves ≡ true
legal_is_passing p long l =
    let passes = legal_passes p l.0 l.1 l.2 in
    let there = in_all l.0 (legal_on_board p l.0 long passes) in
    list_any-from_Any (legal_test p) all_moves (there.0, l.0, there.1, there.2, passes)
