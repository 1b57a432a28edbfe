-- There are at most 512 legal moves: at most 32 from each square with a man of the side to move.
use Rattle.std.proofs.Common.{◌≡◌, ℕ, ◌+◌, ◌*◌, ◌<◌, ◌≤◌, Bool, true, false, cond, not, ◌&&◌, ◌||◌, ◌==◌, leb, ltb, List, [], ◌∷◌, map, length, refl, inl, inr, sym, ap, ◌∙◌, arith}
use Rattle.std.specs.List.{All, filter, sum_by, count_by, list_any}
use Rattle.std.proofs.lemmas.Bool.{and_from, or_left, or_right, or_parts, leb-true, ltb-false, cases_Bool, false≢true, false_from_ne_true}
use Rattle.std.proofs.lemmas.List.Concat.{length-flat_map}
use Rattle.std.proofs.lemmas.List.Elements.{All-weaker}
use Rattle.std.proofs.lemmas.List.Folds.{fold-map, list_any_none}
use Rattle.std.proofs.lemmas.List.FromFn.{fill_by_all}
use Rattle.std.proofs.lemmas.List.Sums.{sum_by-cons, sum_by-le-sum_by}
use Rattle.cq_geometry.specs.Squares.{squares, rank_of}
use Rattle.cq_geometry.specs.Steps.{is_king_step, is_knight_step}
use Rattle.cq_geometry.specs.Lines.{is_orthogonal, is_diagonal}
use Rattle.cq_geometry.proofs.Tables.{at_square}
use Rattle.cq_position.specs.declared.men.Man.{Man}
use Rattle.cq_position.specs.declared.men.Man.TheVariants.{K, Q, R, B, N, P, BlackK, BlackQ, BlackR, BlackB, BlackN, BlackP, Empty}
use Rattle.cq_position.specs.declared.men.Side.{Side}
use Rattle.cq_position.specs.declared.men.Side.TheVariants.{White, Black}
use Rattle.cq_position.specs.declared.moves.Move.{Move}
use Rattle.cq_position.specs.Men.{is_of_side}
use Rattle.cq_position.specs.Board.{Board, man_at, count_of_side, has_too_many_men, king_home, is_pawn}
use Rattle.cq_position.specs.Position.{IsPosition}
use Rattle.cq_position.specs.Attacks.{is_occupied, attacks, attacks_as, is_pawn_attack}
use Rattle.cq_position.specs.Legal.{goes_as, is_none, last_rank, pawn_promotion_is_right, is_single_step, is_double_step, castling_goal, castles, pawn_moves}
use Rattle.cq_position.specs.Legality.{legal_test}
use Rattle.cq_moves.specs.LegalMoves.{moves_between, moves_from, legal_from, legal_list}
use Rattle.cq_moves.proofs.Lists.{filter-none, filter-flat_map, length-filter-within}
use Rattle.cq_moves.proofs.Law.{what_moves, owned_on_board}
use Rattle.cq_moves.proofs.Order.{from_goes}
use Rattle.cq_moves.proofs.Parts.{legal_list_parts}

-- the goals of each man on some board
abbrev castles_to : Side → Bool → ℕ → ℕ → Bool
castles_to side kingside a b = (a == king_home side) && (b == castling_goal side kingside)

abbrev king_goes : Side → ℕ → ℕ → Bool
king_goes side a b = is_king_step a b || castles_to side true a b || castles_to side false a b

abbrev queen_goes : ℕ → ℕ → Bool
queen_goes a b = is_orthogonal a b || is_diagonal a b

abbrev pawn_goes : Side → ℕ → ℕ → Bool
pawn_goes side a b = is_single_step side a b || is_double_step side a b || is_pawn_attack side a b

abbrev king_may : Side → Move → Bool
king_may side m = king_goes side m.from m.to && is_none m.promotion

abbrev queen_may : Move → Bool
queen_may m = queen_goes m.from m.to && is_none m.promotion

abbrev knight_may : Move → Bool
knight_may m = is_knight_step m.from m.to && is_none m.promotion

abbrev pawn_may : Side → Move → Bool
pawn_may side m = pawn_goes side m.from m.to && pawn_promotion_is_right side m

abbrev may : Man → Side → Move → Bool
may K side m = king_may side m
may BlackK side m = king_may side m
may N side m = knight_may m
may BlackN side m = knight_may m
may P side m = pawn_may side m
may BlackP side m = pawn_may side m
may Empty side m = false
may _ side m = queen_may m

-- at most 32 of them from each square: so many for each goal
abbrev is_few : ℕ → (ℕ → ℕ → Bool) → ℕ → Bool
is_few each goes a = leb (sum_by (λ b. cond (goes a b) each 0) squares) 32

abbrev always : ℕ → Bool
always a = true

king_table : (side : Side) → map (is_few 1 (king_goes side)) squares ≡ map always squares
unfolding squares
king_table White = refl
king_table Black = refl

queen_table : map (is_few 1 queen_goes) squares ≡ map always squares
unfolding squares
queen_table = refl

knight_table : map (is_few 1 is_knight_step) squares ≡ map always squares
unfolding squares
knight_table = refl

pawn_table : (side : Side) → map (is_few 4 (pawn_goes side)) squares ≡ map always squares
unfolding squares
pawn_table White = refl
pawn_table Black = refl

-- one move to a goal where nothing promotes, and at most four of a pawn
one_between : (goes : ℕ → ℕ → Bool) (a b : ℕ)
    → length (filter (λ m. goes m.from m.to && is_none m.promotion) (moves_between a b)) ≤ cond (goes a b) 1 0
one_between goes a b =
    elim (goes a b) as (λ g. length (filter (λ m. g && is_none m.promotion) (moves_between a b)) ≤ cond g 1 0) [
      | true ↦ omega arith
      | false ↦ omega arith
    ]

four_between : (side : Side) (a b : ℕ) → length (filter (pawn_may side) (moves_between a b)) ≤ cond (pawn_goes side a b) 4 0
four_between side a b =
    elim (pawn_goes side a b) as (λ g. length (filter (λ m. g && pawn_promotion_is_right side m) (moves_between a b)) ≤ cond g 4 0) [
      | true ↦ elim (rank_of b == last_rank side)
          as (λ l. length (filter (λ m. cond l (not (is_none m.promotion)) (is_none m.promotion)) (moves_between a b)) ≤ 4) [
            | true ↦ omega arith
            | false ↦ omega arith
          ]
      | false ↦ omega arith
    ]

few_by : (t : Move → Bool) (each : ℕ) (goes : ℕ → ℕ → Bool)
    → ((a b : ℕ) → length (filter t (moves_between a b)) ≤ cond (goes a b) each 0)
    → map (is_few each goes) squares ≡ map always squares
    → (a : ℕ) → a < 64 → length (filter t (moves_from a)) ≤ 32
unfolding moves_from
few_by t each goes between table a h =
    let room = λ (b : ℕ). cond (goes a b) each 0 in
    let parts = ap length (filter-flat_map t (moves_between a) squares) ∙ length-flat_map (λ b. filter t (moves_between a b)) squares in
    let within = sum_by-le-sum_by (λ b. length (filter t (moves_between a b))) room squares (between a) in
    let few = leb-true (sum_by room squares) 32 (at_square (is_few each goes) always table a h) in
    omega (arith, parts, within, few)

few_king : (side : Side) (a : ℕ) → a < 64 → length (filter (king_may side) (moves_from a)) ≤ 32
few_king side a h = few_by (king_may side) 1 (king_goes side) (one_between (king_goes side)) (king_table side) a h

few_queen : (a : ℕ) → a < 64 → length (filter queen_may (moves_from a)) ≤ 32
few_queen a h = few_by queen_may 1 queen_goes (one_between queen_goes) queen_table a h

few_knight : (a : ℕ) → a < 64 → length (filter knight_may (moves_from a)) ≤ 32
few_knight a h = few_by knight_may 1 is_knight_step (one_between is_knight_step) knight_table a h

few_pawn : (side : Side) (a : ℕ) → a < 64 → length (filter (pawn_may side) (moves_from a)) ≤ 32
few_pawn side a h = few_by (pawn_may side) 4 (pawn_goes side) (four_between side) (pawn_table side) a h

few_man : (man : Man) (side : Side) (a : ℕ) → a < 64 → length (filter (may man side) (moves_from a)) ≤ 32
few_man K side a h = few_king side a h
few_man Q side a h = few_queen a h
few_man R side a h = few_queen a h
few_man B side a h = few_queen a h
few_man N side a h = few_knight a h
few_man P side a h = few_pawn side a h
few_man BlackK side a h = few_king side a h
few_man BlackQ side a h = few_queen a h
few_man BlackR side a h = few_queen a h
few_man BlackB side a h = few_queen a h
few_man BlackN side a h = few_knight a h
few_man BlackP side a h = few_pawn side a h
few_man Empty side a h = omega (arith, ap length (filter-none (λ m. false) (moves_from a) (λ k d below. refl)))

-- the goals of a man are goals on some board
or_both : (t u v x y z : Bool) → (t ≡ true → x ≡ true) → (u ≡ true → y ≡ true) → (v ≡ true → z ≡ true)
    → (t || u || v) ≡ true → (x || y || z) ≡ true
or_both true u v x y z f g k h = or_left (x || y) z (or_left x y (f refl))
or_both false true v x y z f g k h = or_left (x || y) z (or_right x y (g refl))
or_both false false true x y z f g k h = or_right (x || y) z (k refl)
or_both false false false x y z f g k h = absurd (false≢true h)

first_of_two : (x y : Bool) → (x && y) ≡ true → x ≡ true
first_of_two true y h = refl
first_of_two false y h = h

first_of_four : (x y z w : Bool) → (x && y && z && w) ≡ true → x ≡ true
first_of_four true y z w h = refl
first_of_four false y z w h = h

castling_goes : (p : Board) (a b : ℕ) (kingside : Bool) → castles p a b kingside ≡ true → castles_to p.side kingside a b ≡ true
castling_goes p a b kingside h = first_of_four (castles_to p.side kingside a b) _ _ _ h

king_moves_goes : (p : Board) (a b : ℕ) → (attacks p.men a b ≡ true → is_king_step a b ≡ true)
    → (attacks p.men a b || castles p a b true || castles p a b false) ≡ true → king_goes p.side a b ≡ true
king_moves_goes p a b step h =
    or_both (attacks p.men a b) (castles p a b true) (castles p a b false)
    (is_king_step a b) (castles_to p.side true a b) (castles_to p.side false a b)
    step (castling_goes p a b true) (castling_goes p a b false) h

pawn_moves_goes : (p : Board) (a b : ℕ) → pawn_moves p a b ≡ true → pawn_goes p.side a b ≡ true
pawn_moves_goes p a b h =
    or_both _ _ _ (is_single_step p.side a b) (is_double_step p.side a b) (is_pawn_attack p.side a b)
    (first_of_two (is_single_step p.side a b) _)
    (λ k. first_of_two (is_double_step p.side a b) _ (first_of_two _ _ k))
    (first_of_two (is_pawn_attack p.side a b) _) h

-- the squares that a man attacks, given which man it is
abbrev AttacksAs : Man → Board → ℕ → ℕ → Type 0
AttacksAs man p a b = attacks p.men a b ≡ attacks_as man (is_occupied p.men) a b

open_queen : (p : Board) (a b : ℕ) → AttacksAs Q p a b → attacks p.men a b ≡ true → queen_goes a b ≡ true
open_queen p a b e h = first_of_two (queen_goes a b) _ (sym e ∙ h)

open_rook : (p : Board) (a b : ℕ) → AttacksAs R p a b → attacks p.men a b ≡ true → queen_goes a b ≡ true
open_rook p a b e h = or_left (is_orthogonal a b) (is_diagonal a b) (first_of_two (is_orthogonal a b) _ (sym e ∙ h))

open_bishop : (p : Board) (a b : ℕ) → AttacksAs B p a b → attacks p.men a b ≡ true → queen_goes a b ≡ true
open_bishop p a b e h = or_right (is_orthogonal a b) (is_diagonal a b) (first_of_two (is_diagonal a b) _ (sym e ∙ h))

record MayBecome (man : Man) (p : Board) (m : Move) : Type 0 where
  goes : goes_as man p m.from m.to ≡ true
  becomes : cond (is_pawn man) (pawn_promotion_is_right p.side m) (is_none m.promotion) ≡ true

man_may : (man : Man) (p : Board) (m : Move) → AttacksAs man p m.from m.to → MayBecome man p m → may man p.side m ≡ true
man_may K p m e h =
    and_from (king_goes p.side m.from m.to) (is_none m.promotion) (king_moves_goes p m.from m.to (λ k. sym e ∙ k) h.goes) h.becomes
man_may Q p m e h = and_from (queen_goes m.from m.to) (is_none m.promotion) (open_queen p m.from m.to e h.goes) h.becomes
man_may R p m e h = and_from (queen_goes m.from m.to) (is_none m.promotion) (open_rook p m.from m.to e h.goes) h.becomes
man_may B p m e h = and_from (queen_goes m.from m.to) (is_none m.promotion) (open_bishop p m.from m.to e h.goes) h.becomes
man_may N p m e h = and_from (is_knight_step m.from m.to) (is_none m.promotion) (sym e ∙ h.goes) h.becomes
man_may P p m e h =
    and_from (pawn_goes p.side m.from m.to) (pawn_promotion_is_right p.side m) (pawn_moves_goes p m.from m.to h.goes) h.becomes
man_may BlackK p m e h =
    and_from (king_goes p.side m.from m.to) (is_none m.promotion) (king_moves_goes p m.from m.to (λ k. sym e ∙ k) h.goes) h.becomes
man_may BlackQ p m e h = and_from (queen_goes m.from m.to) (is_none m.promotion) (open_queen p m.from m.to e h.goes) h.becomes
man_may BlackR p m e h = and_from (queen_goes m.from m.to) (is_none m.promotion) (open_rook p m.from m.to e h.goes) h.becomes
man_may BlackB p m e h = and_from (queen_goes m.from m.to) (is_none m.promotion) (open_bishop p m.from m.to e h.goes) h.becomes
man_may BlackN p m e h = and_from (is_knight_step m.from m.to) (is_none m.promotion) (sym e ∙ h.goes) h.becomes
man_may BlackP p m e h =
    and_from (pawn_goes p.side m.from m.to) (pawn_promotion_is_right p.side m) (pawn_moves_goes p m.from m.to h.goes) h.becomes
man_may Empty p m e h = h.goes

legal_may : (p : Board) (m : Move) → legal_test p m ≡ true → may (man_at p.men m.from) p.side m ≡ true
unfolding attacks
legal_may p m h =
    let w = what_moves p m h in
    man_may (man_at p.men m.from) p m refl (record { goes = w.goes; becomes = w.promotes_so })

abbrev owns : Board → Man → Bool
owns p man = is_of_side p.side man

-- none from a square without a man of the side to move
others_fail : (p : Board) (a : ℕ) → owns p (man_at p.men a) ≡ false → All (λ m. legal_test p m ≡ false) (moves_from a)
others_fail p a other =
    All-weaker (λ m. m.from ≡ a) (λ m. legal_test p m ≡ false)
    (λ m e. false_from_ne_true (legal_test p m)
    (λ h. false≢true (sym other ∙ ap (λ s. owns p (man_at p.men s)) (sym e) ∙ (what_moves p m h).own)))
    (moves_from a) (from_goes a)

pub none_from_other : (p : Board) (a : ℕ) → owns p (man_at p.men a) ≡ false → legal_from p a ≡ []
unfolding legal_from
none_from_other p a other = filter-none (legal_test p) (moves_from a) (others_fail p a other)

pub other_has_none : (p : Board) (a : ℕ) → owns p (man_at p.men a) ≡ false → list_any (legal_test p) (moves_from a) ≡ false
other_has_none p a other = list_any_none (legal_test p) (moves_from a) (others_fail p a other)

-- at most 32 legal moves from a square with a man of the side to move, and none from another
few_from : (p : Board) → length p.men ≡ 64 → (a : ℕ)
    → length (legal_from p a) ≤ cond (owns p (man_at p.men a)) 32 0
unfolding legal_from
few_from p long a =
    elim (cases_Bool (owns p (man_at p.men a))) [
      | inl own ↦
          let may_all = All-weaker (λ m. m.from ≡ a) (λ m. legal_test p m ≡ true → may (man_at p.men a) p.side m ≡ true)
          (λ m e h. ap (λ s. may (man_at p.men s) p.side m) (sym e) ∙ legal_may p m h) (moves_from a) (from_goes a) in
          let within = length-filter-within (legal_test p) (may (man_at p.men a) p.side) (moves_from a) may_all in
          let few = few_man (man_at p.men a) p.side a (owned_on_board p.side p.men a long own) in
          rw own (omega (arith, within, few))
      | inr other ↦ rw other (omega (arith, ap length (none_from_other p a other)))
    ]

sum_of_rooms : (own : Man → Bool) (men : List Man) → sum_by (λ m. cond (own m) 32 0) men ≡ 32 * count_by own men
sum_of_rooms own [] = refl
sum_of_rooms own (m ∷ men) =
    let rest = sum_of_rooms own men in
    let sum = sum_by-cons (λ n. cond (own n) 32 0) m men in
    let count = sum_by-cons (λ n. cond (own n) 1 0) m men in
    rw (sum, count) (elim (own m) as (λ b. cond b 32 0 + sum_by (λ n. cond (own n) 32 0) men ≡ 32 * (cond b 1 0 + count_by own men)) [
      | true ↦ omega (arith, rest)
      | false ↦ omega (arith, rest)
    ])

men_by_square : (men : List Man) → length men ≡ 64 → men ≡ map (man_at men) squares
unfolding squares
men_by_square men long = fill_by_all (man_at men) men 64 Empty long (λ k h. refl)

-- a sum over the squares is one over their men
sum_by_square : (f : Man → ℕ) (men : List Man) → length men ≡ 64 → sum_by (λ a. f (man_at men a)) squares ≡ sum_by f men
sum_by_square f men long =
    sym (fold-map (λ s m. s + f m) (man_at men) 0 squares) ∙ ap (sum_by f) (sym (men_by_square men long))

at_most_sixteen : (side : Side) (men : List Man) → has_too_many_men men ≡ false → count_of_side side men ≤ 16
at_most_sixteen White men h =
    ltb-false 16 (count_of_side White men) (or_parts (ltb 16 (count_of_side White men)) (ltb 16 (count_of_side Black men)) h).0
at_most_sixteen Black men h =
    ltb-false 16 (count_of_side Black men) (or_parts (ltb 16 (count_of_side White men)) (ltb 16 (count_of_side Black men)) h).1

pub legal_fits : (p : Board) → IsPosition p → length (legal_list p) ≤ 512
legal_fits p h =
    let parts = ap length (legal_list_parts p) ∙ length-flat_map (legal_from p) squares in
    let each = sum_by-le-sum_by (λ a. length (legal_from p a)) (λ a. cond (owns p (man_at p.men a)) 32 0)
    squares (few_from p h.whole) in
    let whole = sum_by_square (λ m. cond (owns p m) 32 0) p.men h.whole ∙ sum_of_rooms (owns p) p.men in
    omega (arith, parts, each, whole, at_most_sixteen p.side p.men h.few_enough)
