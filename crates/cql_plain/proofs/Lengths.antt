-- The greatest of the lengths of paths that end at places of a set.
use Rattle.std.proofs.Common.{◌≡◌, ℕ, suc, ◌+◌, ◌<◌, max, Bool, true, false, ◌&&◌, List, length, get_or, Option, Some, None, refl, sym, ap, ap₂, ◌∙◌, subst, arith, inl, inr}
use Rattle.std.specs.Prelude.{◌⊎◌}
use Rattle.std.proofs.lemmas.Bool.{cases_lt}
use Rattle.std.proofs.lemmas.List.{get_or_past}
use Rattle.cql_syntax.specs.Meaning.{allows}
use Rattle.cql_syntax.specs.declared.extents.Extent.{Extent}
use Rattle.cql_plain.specs.Internal.PatternEnds.{HasPlace}
use Rattle.cq_common.specs.Greatest.{IsGreatest, with_number}
use Rattle.cq_common.proofs.GreatestLaw.{greatest_with}
use Rattle.cq_common.proofs.WithinLaw.{left, right}
use Rattle.cql_plain.specs.Internal.Paths.{length_at, nodes_to, IsLength}
use Rattle.cql_plain.specs.declared.paths.PathStep.{PathStep}

-- among the first b nodes
abbrev pub IsLengthBelow : ℕ → List (Option PathStep) → List Bool → Extent → ℕ → Type 0
IsLengthBelow b steps ends extent len =
    (k : ℕ) × (k < b) × HasPlace ends (suc k) × (length_at steps (suc k) ≡ len) × (allows extent len ≡ true)

pub longest_more : (b : ℕ) (steps : List (Option PathStep)) (ends : List Bool) (extent : Extent) (best new : Option ℕ) (nodes : ℕ) (counts : Bool)
    → new ≡ with_number best counts nodes → nodes ≡ nodes_to (get_or steps b None) → counts ≡ (get_or ends (b + 1) false && allows extent nodes)
    → IsGreatest (IsLengthBelow b steps ends extent) best → IsGreatest (IsLengthBelow (b + 1) steps ends extent) new
longest_more b steps ends extent best new nodes counts is len all g =
    subst (IsGreatest (IsLengthBelow (b + 1) steps ends extent)) (sym is)
    (greatest_with (IsLengthBelow b steps ends extent) (IsLengthBelow (b + 1) steps ends extent) best counts nodes
    (λ m p. (p.0, omega (arith, p.1), p.2, p.3, p.4))
    (λ t. let both = sym all ∙ t in (
      b,
      omega arith,
      subst (HasPlace ends) (let e : b + 1 ≡ suc b = omega arith in e)
          (left (get_or ends (b + 1) false) (allows extent nodes) both),
      sym len,
      right (get_or ends (b + 1) false) (allows extent nodes) both,
    ))
    (λ m q. elim (cases_lt q.0 b) [
      | inl before ↦ inl (q.0, before, q.2, q.3, q.4)
      | inr here ↦
          let same : q.0 ≡ b = omega (arith, q.1) in
          let is_len : m ≡ nodes = sym q.3 ∙ ap (λ k. nodes_to (get_or steps k None)) same ∙ sym len in
          inr (all ∙ ap₂ (λ x y. x && y) (subst (HasPlace ends) (let e : suc q.0 ≡ b + 1 = omega arith in e) q.2) (ap (allows extent) (sym is_len) ∙ q.4), is_len)
    ])
    g)

in_range : (steps : List (Option PathStep)) (ends : List Bool) (k : ℕ) → length ends ≡ length steps + 1 → HasPlace ends (suc k) → k < length steps
in_range steps ends k count h = elim (cases_lt k (length steps)) [
  | inl less ↦ less
  | inr past ↦ absurd (let none : get_or ends (suc k) false ≡ false = get_or_past ends (suc k) false (omega arith) in cc)
]

pub longest_all : (steps : List (Option PathStep)) (ends : List Bool) (extent : Extent) (best : Option ℕ) → length ends ≡ length steps + 1
    → IsGreatest (IsLengthBelow (length steps) steps ends extent) best → IsGreatest (IsLength steps ends extent) best
longest_all steps ends extent None count g = λ k q. g k (q.0, in_range steps ends q.0 count q.1, q.1, q.2, q.3)
longest_all steps ends extent (Some m) count g =
    ((g.0.0, g.0.2, g.0.3, g.0.4), λ k q. g.1 k (q.0, in_range steps ends q.0 count q.1, q.1, q.2, q.3))
