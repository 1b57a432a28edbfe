-- The test of legality and its parts.
use Rattle.std.proofs.Common.{◌≡◌, ℕ, ◌<◌, true, false, not, ◌&&◌, ltb, List, length, refl, inl, inr, sym, ap, ◌∙◌, arith}
use Rattle.std.proofs.lemmas.Bool.{and_parts, not-true, ltb-true, lt-ltb, cases_lt, false≢true}
use Rattle.std.proofs.lemmas.List.{get_or_past}
use Rattle.cq_position.specs.declared.men.Man.{Man}
use Rattle.cq_position.specs.declared.men.Man.TheVariants.{Empty}
use Rattle.cq_position.specs.declared.men.Side.{Side}
use Rattle.cq_position.specs.declared.men.Side.TheVariants.{White, Black}
use Rattle.cq_position.specs.declared.moves.Move.{Move}
use Rattle.cq_position.specs.Men.{is_of_side, opponent, king_of}
use Rattle.cq_position.specs.Board.{Board, man_at, stands}
use Rattle.cq_position.specs.Legal.{goes_as, reaches, promotion_is_right, is_pseudo_legal}
use Rattle.cq_position.specs.Legality.{is_safe, legal_test}

-- a move that can be made has squares of the board, and isn't the null move
pub record IsOnBoard (m : Move) : Type 0 where
  pub from : m.from < 64
  pub to : m.to < 64
  pub null : m.null ≡ false

empty_is_free : (side : Side) → is_of_side side Empty ≡ false
empty_is_free White = refl
empty_is_free Black = refl

-- a square with a man of a side is one of the board
pub owned_on_board : (side : Side) (men : List Man) (a : ℕ) → length men ≡ 64 → is_of_side side (man_at men a) ≡ true → a < 64
owned_on_board side men a long own =
    elim (cases_lt a 64) [
      | inl h ↦ h
      | inr h ↦
          let past : man_at men a ≡ Empty = get_or_past men a Empty (omega arith) in
          absurd (false≢true (sym (empty_is_free side) ∙ ap (is_of_side side) (sym past) ∙ own))
    ]

pub record Moves (p : Board) (m : Move) : Type 0 where
  pub null : m.null ≡ false
  pub to : m.to < 64
  pub own : is_of_side p.side (man_at p.men m.from) ≡ true
  pub goes : goes_as (man_at p.men m.from) p m.from m.to ≡ true
  pub promotes_so : promotion_is_right p m ≡ true

pub what_moves : (p : Board) (m : Move) → legal_test p m ≡ true → Moves p m
unfolding legal_test is_pseudo_legal reaches
what_moves p m h =
    let can = (and_parts (is_pseudo_legal p m) (is_safe p m) h).0 in
    let reach_and_become = and_parts (not m.null && ltb m.to 64 && reaches p m.from m.to) (promotion_is_right p m) can in
    let start = and_parts (not m.null && ltb m.to 64) (reaches p m.from m.to) reach_and_become.0 in
    let first = and_parts (not m.null) (ltb m.to 64) start.0 in
    let man = man_at p.men m.from in
    let own = is_of_side p.side man in
    let free = not (is_of_side p.side (man_at p.men m.to)) in
    let kingless = not (stands p.men m.to (king_of (opponent p.side))) in
    let last = and_parts (own && free && kingless) (goes_as man p m.from m.to) start.1 in
    let front = and_parts (own && free) kingless last.0 in
    record {
      null = not-true m.null first.0;
      to = ltb-true m.to 64 first.1;
      own = (and_parts own free front.0).0;
      goes = last.1;
      promotes_so = reach_and_become.1;
    }

pub legal_on_board : (p : Board) (m : Move) → length p.men ≡ 64 → legal_test p m ≡ true → IsOnBoard m
legal_on_board p m long h =
    let w = what_moves p m h in
    record { from = owned_on_board p.side p.men m.from long w.own; to = w.to; null = w.null }

-- the test for a null move, and in parts for another move to a square of the board
pub null_fails : (p : Board) (m : Move) → m.null ≡ true → legal_test p m ≡ false
unfolding legal_test is_pseudo_legal
null_fails p m h = rw h refl

pub passes_in_parts : (p : Board) (m : Move) → m.null ≡ false → m.to < 64
    → legal_test p m ≡ (reaches p m.from m.to && promotion_is_right p m && is_safe p m)
unfolding legal_test is_pseudo_legal
passes_in_parts p m h k = rw (h, lt-ltb m.to 64 k) refl

pub pseudo_legal_by_parts : (p : Board) (m : Move) → m.null ≡ false → m.to < 64 → reaches p m.from m.to ≡ true → promotion_is_right p m ≡ true
    → is_pseudo_legal p m ≡ true
unfolding is_pseudo_legal
pseudo_legal_by_parts p m null below goes becomes = rw (null, lt-ltb m.to 64 below, goes, becomes) refl
