-- If no man that attacks along lines is in line with a square, a man that leaves uncovers no attack on it.
use Rattle.std.proofs.Common.{◌≡◌, ℕ, ◌<◌, Bool, true, false, ◌&&◌, ◌||◌, List, [], ◌∷◌, length, refl, inl, inr, sym, ap, ◌∙◌}
use Rattle.std.specs.Prelude.{slice_set}
use Rattle.std.specs.List.{list_any}
use Rattle.std.proofs.lemmas.Bool.{cases_eq, or_parts, false≢true}
use Rattle.std.proofs.lemmas.List.{get_or-set_same, get_or-set_other}
use Rattle.cq_geometry.specs.Squares.{squares}
use Rattle.cq_geometry.specs.Steps.{is_king_step, is_knight_step}
use Rattle.cq_geometry.specs.Lines.{is_open, is_orthogonal, is_diagonal}
use Rattle.cq_position.specs.declared.men.Man.{Man}
use Rattle.cq_position.specs.declared.men.Man.TheVariants.{Empty}
use Rattle.cq_position.specs.declared.men.Side.{Side}
use Rattle.cq_position.specs.declared.men.Side.TheVariants.{White, Black}
use Rattle.cq_position.specs.Men.{same_man, opponent, king_of, pawn_of}
use Rattle.cq_position.specs.Board.{man_at, stands}
use Rattle.cq_position.specs.Attacks.{is_occupied, is_pawn_attack, is_attacked}
use Rattle.cq_position.specs.AttackTest.{is_orthogonal_slider, is_diagonal_slider, knight_of, some_man}
use Rattle.cq_position.proofs.Attackers.{attacked_in_ways, none_on_lines}

-- a test that passes less finds less
fewer : (s t u : Bool) → (s ≡ true → t ≡ true) → (t && u) ≡ false → (s && u) ≡ false
fewer true t u h e = ap (λ b. b && u) (sym (h refl)) ∙ e
fewer false t u h e = refl

fewer_in : (s t u : ℕ → Bool) (xs : List ℕ) → ((a : ℕ) → s a ≡ true → t a ≡ true)
    → list_any (λ a. t a && u a) xs ≡ false → list_any (λ a. s a && u a) xs ≡ false
fewer_in s t u [] h e = refl
fewer_in s t u (x ∷ xs) h e =
    let parts = or_parts (t x && u x) (list_any (λ a. t a && u a) xs) e in
    rw (fewer (s x) (t x) (u x) (h x) parts.0) (fewer_in s t u xs h parts.1)

-- a man still on its square is the same as before
was_there : (kind : Man → Bool) (men : List Man) (from a : ℕ) → from < length men → kind Empty ≡ false
    → kind (man_at (slice_set men from Empty) a) ≡ true → kind (man_at men a) ≡ true
was_there kind men from a low none h =
    elim (cases_eq a from) [
      | inl e ↦
          let gone : man_at (slice_set men from Empty) a ≡ Empty = ap (man_at (slice_set men from Empty)) e ∙ get_or-set_same men from Empty Empty low in
          absurd (false≢true (sym none ∙ ap kind (sym gone) ∙ h))
      | inr other ↦ ap kind (sym (get_or-set_other men from a Empty Empty other)) ∙ h
    ]

left_finds_less : (kind : Man → Bool) (men : List Man) (from : ℕ) (u : ℕ → Bool) → from < length men → kind Empty ≡ false
    → some_man (λ a. kind (man_at men a)) u ≡ false → some_man (λ a. kind (man_at (slice_set men from Empty) a)) u ≡ false
left_finds_less kind men from u low none e =
    fewer_in (λ a. kind (man_at (slice_set men from Empty) a)) (λ a. kind (man_at men a)) u squares (λ a h. was_there kind men from a low none h) e

-- the kinds of men that no empty square is
record NoneIsEmpty (by : Side) : Type 0 where
  straight : is_orthogonal_slider by Empty ≡ false
  slanted : is_diagonal_slider by Empty ≡ false
  knight : same_man Empty (knight_of by) ≡ false
  pawn : same_man Empty (pawn_of by) ≡ false
  king : same_man Empty (king_of by) ≡ false

none_is_empty : (by : Side) → NoneIsEmpty by
none_is_empty White = record { straight = refl; slanted = refl; knight = refl; pawn = refl; king = refl }
none_is_empty Black = record { straight = refl; slanted = refl; knight = refl; pawn = refl; king = refl }

all_false : (a b c d e : Bool) → a ≡ false → b ≡ false → c ≡ false → d ≡ false → e ≡ false → (a || (b || (c || (d || e)))) ≡ false
all_false a b c d e f g h i j = rw (f, g, h, i) j

pub out_of_line : (men : List Man) (by : Side) (from k : ℕ) → from < length men → k < 64
    → (some_man (λ a. is_orthogonal_slider by (man_at men a)) (is_orthogonal k) || some_man (λ a. is_diagonal_slider by (man_at men a)) (is_diagonal k)) ≡ false
    → is_attacked men by k ≡ false → is_attacked (slice_set men from Empty) by k ≡ false
out_of_line men by from k low board lines safe =
    let left = slice_set men from Empty in
    let none = none_is_empty by in
    let straight = λ (xs : List Man) (a : ℕ). is_orthogonal_slider by (man_at xs a) in
    let slanted = λ (xs : List Man) (a : ℕ). is_diagonal_slider by (man_at xs a) in
    let knights = some_man (λ a. stands men a (knight_of by)) (is_knight_step k) in
    let pawns = some_man (λ a. stands men a (pawn_of by)) (is_pawn_attack (opponent by) k) in
    let kings = some_man (λ a. stands men a (king_of by)) (is_king_step k) in
    let orthogonal = some_man (straight men) (λ a. is_orthogonal k a && is_open (is_occupied men) k a) in
    let diagonal = some_man (slanted men) (λ a. is_diagonal k a && is_open (is_occupied men) k a) in
    let parts = or_parts (some_man (straight men) (is_orthogonal k)) (some_man (slanted men) (is_diagonal k)) lines in
    let ways = sym (attacked_in_ways men by k board) ∙ safe in
    let one = or_parts orthogonal (diagonal || (knights || (pawns || kings))) ways in
    let two = or_parts diagonal (knights || (pawns || kings)) one.1 in
    let three = or_parts knights (pawns || kings) two.1 in
    let four = or_parts pawns kings three.1 in
    attacked_in_ways left by k board
    ∙ all_false _ _ _ _ _
    (none_on_lines (straight left) (is_orthogonal k) (is_open (is_occupied left) k) (left_finds_less (is_orthogonal_slider by) men from (is_orthogonal k) low none.straight parts.0))
    (none_on_lines (slanted left) (is_diagonal k) (is_open (is_occupied left) k) (left_finds_less (is_diagonal_slider by) men from (is_diagonal k) low none.slanted parts.1))
    (left_finds_less (λ m. same_man m (knight_of by)) men from (is_knight_step k) low none.knight three.0)
    (left_finds_less (λ m. same_man m (pawn_of by)) men from (is_pawn_attack (opponent by) k) low none.pawn four.0)
    (left_finds_less (λ m. same_man m (king_of by)) men from (is_king_step k) low none.king four.1)
