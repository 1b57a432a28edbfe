-- One node more, downwards.
use Rattle.std.proofs.Common.{◌≡◌, ℕ, ◌+◌, ◌<◌, max, Bool, false, List, length, sym, ap, ◌∙◌, subst, Option, Some, None, inl, inr, arith}
use Rattle.std.specs.Prelude.{◌⊎◌}
use Rattle.std.proofs.lemmas.Bool.{cases_lt, cases_eq}
use Rattle.cql_lines.specs.declared.automaton.Transition.{Transition}
use Rattle.cql_lines.specs.declared.shape.TreeNode.{TreeNode}
use Rattle.cql_lines.specs.Internal.AcceptedLengths.{AcceptedLengthFrom}
use Rattle.cql_lines.proofs.Below.{Below}
use Rattle.cql_lines.specs.Internal.Lengths.{IsGreatestOrZero}
use Rattle.cql_lines.specs.Shapes.{joined, Edge}
use Rattle.cql_lines.specs.Tables.{holds}
use Rattle.cql_lines.specs.Internal.DownwardPass.{cell, LengthBelow, DownInvariant, IsParentUpdate}
use Rattle.cql_lines.proofs.Measures.{Measure, Keeps, Joins}

-- the greatest of the numbers of two kinds
pub greatest_of_two : (P Q R : ℕ → Type 0) (a b : ℕ) → IsGreatestOrZero P a → IsGreatestOrZero Q b → ((k : ℕ) → R k → P k ⊎ Q k)
    → ((k : ℕ) → P k → R k) → ((k : ℕ) → Q k → R k) → IsGreatestOrZero R (max a b)
greatest_of_two P Q R a b p q split left right = record {
  bounds = λ k r. elim (split k r) [
    | inl x ↦ (let h = p.bounds k x in omega arith)
    | inr y ↦ (let h = q.bounds k y in omega arith)
  ];
  reached = λ some. elim (cases_lt a b) [
    | inl less ↦ (let is : b ≡ max a b = omega arith in let positive : 0 < b = omega arith in subst R is (right b (q.reached positive)))
    | inr more ↦ (let is : a ≡ max a b = omega arith in let positive : 0 < a = omega arith in subst R is (left a (p.reached positive)))
  ];
}

pub same_greatest : (P R : ℕ → Type 0) (a : ℕ) → IsGreatestOrZero P a → ((k : ℕ) → R k → P k) → ((k : ℕ) → P k → R k) → IsGreatestOrZero R a
same_greatest P R a p back on = record { bounds = λ k r. p.bounds k (back k r); reached = λ some. on a (p.reached some) }

pub none_greatest : (P : ℕ → Type 0) → ((k : ℕ) → P k → ⊥) → IsGreatestOrZero P 0
none_greatest P never = record { bounds = λ k p. absurd (never k p); reached = λ some. absurd (omega (arith, some)) }

module _ (Represents : Measure) (join : ℕ → ℕ → ℕ) (same : Keeps Represents) (two : Joins Represents join) (words : List ℕ) (rules : List Transition) (primary : Bool)
    (tree_nodes : List TreeNode) (below : (n p : ℕ) → joined primary tree_nodes n ≡ Some p → p < n) where
  -- the row of a node is whole when its turn comes
  pub whole_row : (t : ℕ) (rows : List (ℕ → ℕ)) → DownInvariant Represents words rules primary tree_nodes t rows → (n : ℕ) → n + t + 1 ≡ length tree_nodes → (j : ℕ)
      → Represents (Below (holds words) rules (Edge false primary tree_nodes) j n) (cell rows n j)
  whole_row t rows s n e j =
      same (LengthBelow words rules primary tree_nodes t n j) (Below (holds words) rules (Edge false primary tree_nodes) j n) (cell rows n j) (s.known n j)
      (λ k r. (r.0, (let h = below r.0 n r.1 in omega arith), r.1, r.2))
      (λ k l. (l.0, l.2, l.3))

  -- one node more
  late_split : (t n p j k : ℕ) → n + t + 1 ≡ length tree_nodes → LengthBelow words rules primary tree_nodes (t + 1) p j k
      → LengthBelow words rules primary tree_nodes t p j k ⊎ ((joined primary tree_nodes n ≡ Some p) × AcceptedLengthFrom (holds words) rules (Edge false primary tree_nodes) j n k)
  late_split t n p j k e l = elim (cases_eq l.0 n) [
    | inl is ↦ inr (sym (ap (joined primary tree_nodes) is) ∙ l.2, subst (λ c. AcceptedLengthFrom (holds words) rules (Edge false primary tree_nodes) j c k) is l.3)
    | inr other ↦ inl (l.0, (let h = l.1 in omega arith), l.2, l.3)
  ]

  late_more : (t p j k : ℕ) → LengthBelow words rules primary tree_nodes t p j k → LengthBelow words rules primary tree_nodes (t + 1) p j k
  late_more t p j k l = (l.0, (let h = l.1 in omega arith), l.2, l.3)

  known_parent : (t n p j : ℕ) (rows : List (ℕ → ℕ)) (own : ℕ) → n + t + 1 ≡ length tree_nodes → DownInvariant Represents words rules primary tree_nodes t rows → joined primary tree_nodes n ≡ Some p
      → Represents (AcceptedLengthFrom (holds words) rules (Edge false primary tree_nodes) j n) own → Represents (LengthBelow words rules primary tree_nodes (t + 1) p j) (join (cell rows p j) own)
  known_parent t n p j rows own e s up o =
      two (LengthBelow words rules primary tree_nodes t p j) (AcceptedLengthFrom (holds words) rules (Edge false primary tree_nodes) j n) (LengthBelow words rules primary tree_nodes (t + 1) p j) (cell rows p j) own (s.known p j) o
      (λ k l. elim (late_split t n p j k e l) [ inl a ↦ inl a | inr b ↦ inr b.1 ])
      (λ k l. late_more t p j k l)
      (λ k f. (n, omega arith, up, f))

  known_other : (t n p j : ℕ) (rows : List (ℕ → ℕ)) → n + t + 1 ≡ length tree_nodes → DownInvariant Represents words rules primary tree_nodes t rows → (joined primary tree_nodes n ≡ Some p → ⊥)
      → Represents (LengthBelow words rules primary tree_nodes (t + 1) p j) (cell rows p j)
  known_other t n p j rows e s other =
      same (LengthBelow words rules primary tree_nodes t p j) (LengthBelow words rules primary tree_nodes (t + 1) p j) (cell rows p j) (s.known p j)
      (λ k l. elim (late_split t n p j k e l) [ inl a ↦ a | inr b ↦ absurd (other b.0) ])
      (λ k l. late_more t p j k l)

  cases_joined : (o : Option ℕ) (p : ℕ) → (o ≡ Some p) ⊎ (o ≡ Some p → ⊥)
  cases_joined None p = inr (λ e. cc)
  cases_joined (Some q) p = elim (cases_eq q p) [ inl is ↦ inl (ap Some is) | inr other ↦ inr (λ e. other (cc)) ]

  pub stands_more : (t n : ℕ) (rows new : List (ℕ → ℕ)) (own : ℕ → ℕ) → n + t + 1 ≡ length tree_nodes → DownInvariant Represents words rules primary tree_nodes t rows
      → ((i : ℕ) → Represents (AcceptedLengthFrom (holds words) rules (Edge false primary tree_nodes) i n) (own i))
      → IsParentUpdate join primary tree_nodes n rows new own → DownInvariant Represents words rules primary tree_nodes (t + 1) new
  stands_more t n rows new own e s known p = record {
    count = p.count ∙ s.count;
    known = λ q j. elim (cases_joined (joined primary tree_nodes n) q) [
      | inl up ↦ subst (Represents (LengthBelow words rules primary tree_nodes (t + 1) q j)) (sym (p.parent q j up)) (known_parent t n q j rows (own j) e s up (known j))
      | inr other ↦ subst (Represents (LengthBelow words rules primary tree_nodes (t + 1) q j)) (sym (p.others q j other)) (known_other t n q j rows e s other)
    ];
  }

  pub stands_same : (t n : ℕ) (rows : List (ℕ → ℕ)) → n + t + 1 ≡ length tree_nodes → DownInvariant Represents words rules primary tree_nodes t rows
      → joined primary tree_nodes n ≡ None → DownInvariant Represents words rules primary tree_nodes (t + 1) rows
  stands_same t n rows e s none = record {
    count = s.count;
    known = λ q j. known_other t n q j rows e s (λ up. let both = sym none ∙ up in cc);
  }
