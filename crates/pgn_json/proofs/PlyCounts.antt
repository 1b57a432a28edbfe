-- The ply of a node, from that of its parent.
use Rattle.std.proofs.Common.{◌≡◌, ℕ, zero, suc, ◌+◌, ◌≤◌, List, [], ◌∷◌, ◌++◌, length, get_or, Option, Some, None, refl, ap, ◌∙◌, sym, arith, ⊎_elim, length-append}
use Rattle.std.proofs.lemmas.Bool.{cases_order}
use Rattle.std.proofs.lemmas.List.{get_or_append_left}
use Rattle.std.proofs.Math.Seq.{get_or-append_seam}
use Rattle.cq_position.specs.Games.{Node, node_at, up_from, way_up, IsTree}
use Rattle.cq_position.specs.Search.{ply}
use Rattle.cq_position.proofs.WaysUp.{way_on}
use Rattle.pgn_json.specs.Internal.Remaining.{ArePlies}

up_short : (most : ℕ) (nodes : List Node) (n : Option ℕ) → length (up_from most nodes n) ≤ most
up_short zero nodes n = omega arith
up_short (suc most) nodes None = omega arith
up_short (suc most) nodes (Some n) = omega (arith, up_short most nodes (node_at nodes n).parent)

-- at most as many moves as nodes before it
pub ply_low : (nodes : List Node) (n : ℕ) → ply nodes n ≤ n
unfolding way_up
ply_low nodes n = omega (arith, up_short (n + 1) nodes (Some n))

pub ply_root : (nodes : List Node) (k : ℕ) → IsTree nodes → (node_at nodes k).parent ≡ None → ply nodes k ≡ 0
ply_root nodes k tree is = let long : length (way_up nodes k) ≡ 1 = ap length (way_on nodes k None tree is) in omega (arith, long)

pub ply_step : (nodes : List Node) (k p : ℕ) → IsTree nodes → (node_at nodes k).parent ≡ Some p → ply nodes k ≡ ply nodes p + 1
ply_step nodes k p tree is =
    let long : length (way_up nodes k) ≡ suc (length (way_up nodes p)) = ap length (way_on nodes k (Some p) tree is) in
    let some_ = ap length (way_on nodes p (node_at nodes p).parent tree refl) in
    omega (arith, long, some_)

pub plies_none : (nodes : List Node) (plies : List ℕ) → plies ≡ [] → ArePlies nodes 0 plies
plies_none nodes plies is = record { size = ap length is; each = λ n h. absurd (omega (arith, h)) }

pub plies_more : (nodes : List Node) (k : ℕ) (plies later : List ℕ) (x : ℕ) → later ≡ plies ++ x ∷ [] → x ≡ ply nodes k → ArePlies nodes k plies
    → ArePlies nodes (k + 1) later
plies_more nodes k plies later x is new had = record {
  size = ap length is ∙ length-append plies (x ∷ []) ∙ ap (λ i. i + 1) had.size;
  each = λ n h. ap (λ l. get_or l n 0) is ∙ ⊎_elim
      (λ same. ap (λ i. get_or (plies ++ x ∷ []) i 0) (same ∙ sym had.size) ∙ get_or-append_seam plies x [] 0 ∙ new ∙ ap (ply nodes) (sym same))
      (λ o. ⊎_elim (λ less. get_or_append_left plies (x ∷ []) 0 n (omega (arith, less, had.size)) ∙ had.each n less)
      (λ more. absurd (omega (arith, h, more))) o)
      (cases_order n k);
}
