-- The number of moves on the way to a node, by the number on the way to its parent.
use Rattle.std.proofs.Common.{◌≡◌, ℕ, zero, suc, ◌+◌, ◌-◌, ◌<◌, ◌≤◌, Bool, true, false, ◌||◌, not, List, [], ◌∷◌, ◌++◌, length, get_or, Some, None, refl, ap, ◌∙◌, sym, subst, arith, count_by, cond, ⊎_elim, inl, inr, length-append}
use Rattle.std.specs.Prelude.{if◌then◌else◌}
use Rattle.std.proofs.lemmas.Bool.{cases_order}
use Rattle.std.proofs.lemmas.List.{get_or_append_left}
use Rattle.std.proofs.lemmas.List.Sums.{count_by-le-length, sum_by-cons}
use Rattle.std.proofs.Math.Seq.{get_or-append_seam}
use Rattle.cq_position.specs.Games.{Node, node_at, way_up, IsTree}
use Rattle.cq_position.specs.Search.{begins_variation}
use Rattle.cq_position.proofs.WaysUp.{way_on, parent_before}
use Rattle.cql_values.specs.Counts.{moves_on, AreCounts}
use Rattle.cql_values.proofs.Ways.{way_length}

pub one_on : (only : Bool) (nodes : List Node) (k p : ℕ) → IsTree nodes → k < length nodes → (node_at nodes k).parent ≡ Some p
    → moves_on only nodes k ≡ moves_on only nodes p + (if not only || begins_variation nodes k then 1 else 0)
one_on false nodes k p tree low is =
    let before = parent_before nodes k p tree is in
    let way = way_length nodes p (way_up nodes p) tree (omega (arith, before.0, low)) refl in
    let long : length (way_up nodes k) ≡ suc (length (way_up nodes p)) = ap length (way_on nodes k (Some p) tree is) in
    omega (arith, long, way.some_)
one_on true nodes k p tree low is =
    let on = ap (count_by (begins_variation nodes)) (way_on nodes k (Some p) tree is) in
    let more = sum_by-cons (λ m. cond (begins_variation nodes m) 1 0) k (way_up nodes p) in
    omega (arith, on, more)

pub none_on : (only : Bool) (nodes : List Node) (k : ℕ) → IsTree nodes → k ≡ 0 → (node_at nodes k).parent ≡ None → moves_on only nodes k ≡ 0
none_on false nodes k tree root is = let long : length (way_up nodes k) ≡ suc 0 = ap length (way_on nodes k None tree is) in omega (arith, long)
none_on true nodes k tree root is =
    let on = ap (count_by (begins_variation nodes)) (way_on nodes k None tree is) in
    let more = sum_by-cons (λ m. cond (begins_variation nodes m) 1 0) k [] in
    let first : ◌≡◌ {A = ℕ} (cond (begins_variation nodes k) 1 0) 0 = ap (λ m. cond (begins_variation nodes m) 1 0) root in
    omega (arith, on, more, first)

pub few_on : (only : Bool) (nodes : List Node) (k : ℕ) → IsTree nodes → k < length nodes → moves_on only nodes k ≤ 65536
few_on false nodes k tree low = let way = way_length nodes k (way_up nodes k) tree low refl in omega (arith, way.few)
few_on true nodes k tree low =
    let way = way_length nodes k (way_up nodes k) tree low refl in
    let some_of = count_by-le-length (begins_variation nodes) (way_up nodes k) in
    omega (arith, some_of, way.few)

pub counts_none : (count : ℕ → ℕ) (counts : List ℕ) → counts ≡ [] → AreCounts count 0 counts
counts_none count counts is = record { size = ap length is; each = λ n h. absurd (omega (arith, h)) }

pub counts_more : (count : ℕ → ℕ) (k : ℕ) (counts later : List ℕ) (x : ℕ) → later ≡ counts ++ x ∷ [] → x ≡ count k → AreCounts count k counts → AreCounts count (k + 1) later
counts_more count k counts later x is new had = record {
  size = ap length is ∙ length-append counts (x ∷ []) ∙ ap (λ i. i + 1) had.size;
  each = λ n h. ap (λ l. get_or l n 0) is ∙ ⊎_elim
      (λ same. ap (λ i. get_or (counts ++ x ∷ []) i 0) (same ∙ sym had.size) ∙ get_or-append_seam counts x [] 0 ∙ new ∙ ap count (sym same))
      (λ o. ⊎_elim (λ less. get_or_append_left counts (x ∷ []) 0 n (omega (arith, less, had.size)) ∙ had.each n less)
      (λ more. absurd (omega (arith, h, more))) o)
      (cases_order n k);
}
