-- The men that are looked for in a game, one by one, and position by position.
use Rattle.std.proofs.Common.{◌≡◌, ℕ, ◌+◌, ◌^◌, ◌<◌, ◌≤◌, Bool, true, false, not, ◌&&◌, ◌||◌, List, [], ◌∷◌, length, map, take, get_or, nat_eq, refl, sym, ap, ap₂, ◌∙◌, arith, ⊎_elim, inl, inr}
use Rattle.std.specs.Prelude.{◌==◌, if◌then◌else◌}
use Rattle.std.specs.List.{list_any, filter, range_with_len}
use Rattle.std.proofs.lemmas.Bool.{cases_Bool}
use Rattle.std.proofs.lemmas.List.Folds.{list_any_more, list_any_at}
use Rattle.std.proofs.lemmas.List.FromFn.{fill_by_all}
use Rattle.cq_geometry.specs.Squares.{squares}
use Rattle.cq_position.specs.Bitboards.{IsBitboard}
use Rattle.cq_position.specs.Board.{Board, man_at, stands}
use Rattle.cq_position.specs.Games.{node_at, is_searched, searched}
use Rattle.cq_position.specs.Men.{man_number}
use Rattle.cq_position.specs.Search.{SearchedTree, has_man, has_man_in}
use Rattle.cq_position.specs.declared.men.Man.{Man}
use Rattle.cq_position.specs.declared.men.Man.TheVariants.{K, Q, R, B, N, P, BlackK, BlackQ, BlackR, BlackB, BlackN, BlackP, Empty}
use Rattle.cq_symmetry.specs.Images.{is_in}
use Rattle.cql_columns.proofs.Filling.{split_last}
use Rattle.cql_values.proofs.Masks.{some_set, is_in_bit}
use Rattle.cql_values.proofs.Ranges.{same_any, any_mapped, in_range, from_range}
use Rattle.cql_plan.specs.Needs.{one_stands}

abbrev pub twelve : List Man
twelve = K ∷ Q ∷ R ∷ B ∷ N ∷ P ∷ BlackK ∷ BlackQ ∷ BlackR ∷ BlackB ∷ BlackN ∷ BlackP ∷ []

-- one man is needed and stands somewhere
abbrev pub is_needed_there : SearchedTree → ℕ → Man → Bool
is_needed_there tree men m = is_in men (man_number m) && has_man_in tree (man_number m)

by_number : (tree : SearchedTree) (men : ℕ) → list_any (is_needed_there tree men) twelve ≡ one_stands tree men
unfolding one_stands
by_number tree men = refl

pub man_found : (tree : SearchedTree) (men i : ℕ) (d : Man) → i < 12 → is_needed_there tree men (get_or twelve i d) ≡ true → true ≡ one_stands tree men
man_found tree men i d low e = sym (list_any_at (is_needed_there tree men) twelve i d low e) ∙ by_number tree men

pub no_man_more : (tree : SearchedTree) (men i : ℕ) (d : Man) → i < 12 → is_needed_there tree men (get_or twelve i d) ≡ false
    → list_any (is_needed_there tree men) (take i twelve) ≡ false → list_any (is_needed_there tree men) (take (i + 1) twelve) ≡ false
no_man_more tree men i d low e had = list_any_more (is_needed_there tree men) twelve i d low ∙ ap₂ (λ a b. a || b) had e

pub no_man_all : (tree : SearchedTree) (men i : ℕ) → i ≡ 12 → list_any (is_needed_there tree men) (take i twelve) ≡ false → false ≡ one_stands tree men
no_man_all tree men i end had = sym had ∙ ap (λ k. list_any (is_needed_there tree men) (take k twelve)) end ∙ by_number tree men

-- positions
any_filter : (p q : ℕ → Bool) (xs : List ℕ) → list_any p (filter q xs) ≡ list_any (λ x. q x && p x) xs
any_filter p q [] = refl
any_filter p q (x ∷ xs) = by (q x) (any_filter p q xs)
  where
    by : (b : Bool) → list_any p (filter q xs) ≡ list_any (λ y. q y && p y) xs
        → list_any p (if b then x ∷ filter q xs else filter q xs) ≡ ((b && p x) || list_any (λ y. q y && p y) xs)
    by true e = ap (λ r. p x || r) e
    by false e = e

abbrev pub stands_here : SearchedTree → ℕ → ℕ → Bool
stands_here tree m n = is_searched tree.variations tree.game.nodes n && has_man (node_at tree.game.nodes n).position m

by_node : (tree : SearchedTree) (m : ℕ) → has_man_in tree m ≡ list_any (stands_here tree m) (range_with_len 0 (length tree.game.nodes))
unfolding has_man_in searched
by_node tree m = any_filter (λ n. has_man (node_at tree.game.nodes n).position m) (is_searched tree.variations tree.game.nodes) (range_with_len 0 (length tree.game.nodes))

pub node_found : (tree : SearchedTree) (m k : ℕ) → k < length tree.game.nodes → stands_here tree m k ≡ true → true ≡ has_man_in tree m
node_found tree m k low e = sym (by_node tree m ∙ in_range (stands_here tree m) 0 (length tree.game.nodes) k (omega arith) (omega (arith, low)) e)

pub record NotYet (tree : SearchedTree) (m k : ℕ) : Type 0 where
  pub each : (n : ℕ) → n < k → stands_here tree m n ≡ false

pub not_yet_none : (tree : SearchedTree) (m : ℕ) → NotYet tree m 0
not_yet_none tree m = record { each = λ n h. absurd (omega (arith, h)) }

pub not_yet_more : (tree : SearchedTree) (m k : ℕ) → stands_here tree m k ≡ false → NotYet tree m k → NotYet tree m (k + 1)
not_yet_more tree m k e had = record {
  each = λ n h. ⊎_elim (λ less. had.each n less) (λ same. ap (stands_here tree m) same ∙ e) (split_last n k h);
}

pub nowhere : (tree : SearchedTree) (m k : ℕ) → length tree.game.nodes ≤ k → NotYet tree m k → false ≡ has_man_in tree m
nowhere tree m k end had = sym (by_node tree m ∙ elim (cases_Bool (list_any (stands_here tree m) (range_with_len 0 (length tree.game.nodes)))) [
  | inl found ↦
      let f = from_range (stands_here tree m) 0 (length tree.game.nodes) found in
      absurd (let never : true ≡ false = sym f.passes ∙ had.each f.k (omega (arith, f.high, end)) in cc)
  | inr none ↦ none
])

men_by_square : (men : List Man) → length men ≡ 64 → men ≡ map (man_at men) squares
unfolding squares
men_by_square men long = fill_by_all (man_at men) men 64 Empty long (λ k h. refl)

-- a man stands on some square
pub stands_law : (p : Board) (man : Man) (mask : ℕ) → length p.men ≡ 64 → mask < 2 ^ 64 → IsBitboard mask (λ s. stands p.men s man)
    → not (nat_eq mask 0) ≡ has_man p (man_number man)
unfolding has_man
stands_law p man mask whole fits board =
    let test = λ (m : Man). man_number m == man_number man in
    some_set mask fits
    ∙ same_any (is_in mask) (λ s. test (man_at p.men s)) (λ s low. is_in_bit mask s (stands p.men s man) (board.bit s low))
    ∙ sym (any_mapped test (man_at p.men) squares) ∙ ap (list_any test) (sym (men_by_square p.men whole))
