-- The searched nodes as steps.
use Rattle.std.proofs.Common.{◌≡◌, ℕ, suc, ◌+◌, ◌-◌, ◌<◌, ◌≤◌, Bool, true, false, List, ◌∷◌, length, take, get_or, cond, refl, sym, ap, ◌∙◌, arith}
use Rattle.std.specs.Prelude.{if◌then◌else◌, count_by}
use Rattle.std.proofs.lemmas.List.Sums.{count_by_more_yes, count_by_more_no}
use Rattle.std.specs.List.{filter, range_with_len}
use Rattle.cq_position.specs.Games.{is_searched, searched}
use Rattle.cq_position.specs.Search.{SearchedTree, nodes_in}
use Rattle.cql_columns.proofs.Chains.{take_whole}

-- the number of those that pass among the numbers that are left
abbrev pub left_of : (ℕ → Bool) → ℕ → ℕ → ℕ
left_of p k count = length (filter p (range_with_len k (count - k)))

one_less : (p : ℕ → Bool) (k m : ℕ) (b : Bool) → b ≡ p k → length (filter p (range_with_len k (suc m))) ≡ (if b then 1 else 0) + length (filter p (range_with_len (k + 1) m))
one_less p k m true is = ap (λ b. length (cond b (k ∷ filter p (range_with_len (k + 1) m)) (filter p (range_with_len (k + 1) m)))) (sym is) ∙ (omega arith)
one_less p k m false is = ap (λ b. length (cond b (k ∷ filter p (range_with_len (k + 1) m)) (filter p (range_with_len (k + 1) m)))) (sym is) ∙ (omega arith)

pub steps_next : (p : ℕ → Bool) (k count total now later : ℕ) (there : Bool) → k < count → there ≡ p k → later ≡ now + (if there then 1 else 0)
    → now + left_of p k count ≡ total → later + left_of p (k + 1) count ≡ total
steps_next p k count total now later there h is more had =
    let e : count - k ≡ suc (count - (k + 1)) = omega (arith, h) in
    let split : left_of p k count ≡ (if there then 1 else 0) + left_of p (k + 1) count = ap (λ m. length (filter p (range_with_len k m))) e ∙ one_less p k (count - (k + 1)) there is in
    omega (arith, more, had, split)

pub steps_all : (p : ℕ → Bool) (k count now total : ℕ) → count ≤ k → now + left_of p k count ≡ total → now ≡ total
steps_all p k count now total end had =
    let none : left_of p k count ≡ 0 = (let e : count - k ≡ 0 = omega (arith, end) in ap (λ m. length (filter p (range_with_len k m))) e) in
    omega (arith, had, none)

pub all_left : (tree : SearchedTree) (now : ℕ) → now + left_of (is_searched tree.variations tree.game.nodes) 0 (length tree.game.nodes) ≡ now + length (nodes_in tree)
unfolding searched
all_left tree now = let e : length tree.game.nodes - 0 ≡ length tree.game.nodes = omega arith in ap (λ m. now + length (filter (is_searched tree.variations tree.game.nodes) (range_with_len 0 m))) e

-- a step for each node of a set
pub ticks_more : (live : List Bool) (n : ℕ) (d : Bool) (before now later : ℕ) → n < length live → later ≡ now + (if get_or live n d then 1 else 0)
    → now ≡ before + count_by (λ b. b) (take n live) → later ≡ before + count_by (λ b. b) (take (n + 1) live)
ticks_more live n d before now later low more had = by (get_or live n d) refl more
  where
    by : (b : Bool) → get_or live n d ≡ b → later ≡ now + (if b then 1 else 0) → later ≡ before + count_by (λ b. b) (take (n + 1) live)
    by true is more = let e = count_by_more_yes (λ b. b) live n d low is in omega (arith, more, had, e)
    by false is more = let e = count_by_more_no (λ b. b) live n d low is in omega (arith, more, had, e)

pub ticks_all : (live : List Bool) (n before now : ℕ) → length live ≤ n → now ≡ before + count_by (λ b. b) (take n live) → now ≡ before + count_by (λ b. b) live
ticks_all live n before now end had = had ∙ ap (λ l. before + count_by (λ b. b) l) (take_whole live n end)
