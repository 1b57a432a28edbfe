-- One node more, upwards.
use Rattle.std.proofs.Common.{◌≡◌, ℕ, ◌+◌, ◌<◌, ◌≤◌, Bool, true, false, List, length, get_or, refl, sym, ap, ◌∙◌, subst, Option, Some, None, inl, inr, arith, slice_set}
use Rattle.std.proofs.lemmas.Bool.{cases_eq}
use Rattle.std.proofs.lemmas.List.{get_or-set_same, get_or-set_other, length-set}
use Rattle.cql_lines.specs.declared.automaton.Transition.{Transition}
use Rattle.cql_lines.specs.declared.shape.TreeNode.{TreeNode}
use Rattle.cql_lines.specs.Internal.AcceptedLengths.{AcceptedLengthFrom}
use Rattle.cql_lines.proofs.Below.{Below}
use Rattle.cql_lines.specs.Shapes.{joined, is_searched, Edge}
use Rattle.cql_lines.specs.Tables.{holds}
use Rattle.cql_lines.specs.Values.{GreatestWhere}
use Rattle.cql_lines.specs.Internal.DownwardPass.{cell}
use Rattle.cql_lines.specs.Internal.UpwardPass.{UpInvariant, IsAbove}
use Rattle.cql_lines.proofs.Measures.{Measure, Keeps, HasNone}

pub set_cell : (rows : List (ℕ → ℕ)) (n m j : ℕ) (own : ℕ → ℕ) → m ≡ n → n < length rows → cell (slice_set rows n own) m j ≡ own j
set_cell rows n m j own e low = ap (λ k. cell (slice_set rows n own) k j) e ∙ ap (λ r. r j) (get_or-set_same rows n own (λ j. 0) low)

pub other_cell : (rows : List (ℕ → ℕ)) (n m j : ℕ) (own : ℕ → ℕ) → (m ≡ n → ⊥) → cell (slice_set rows n own) m j ≡ cell rows m j
other_cell rows n m j own e = ap (λ r. r j) (get_or-set_other rows n m own (λ j. 0) e)

module _ (Represents : Measure) (same : Keeps Represents) (none : HasNone Represents) (words : List ℕ) (rules : List Transition) (primary : Bool) (tree_nodes : List TreeNode)
    (below : (n p : ℕ) → joined primary tree_nodes n ≡ Some p → (p < n) × (is_searched tree_nodes p ≡ true)) where
  row_above : (t n : ℕ) (rows : List (ℕ → ℕ)) (row : ℕ → ℕ) (o : Option ℕ) → joined primary tree_nodes n ≡ o → n ≤ t → UpInvariant Represents words rules primary tree_nodes t rows → IsAbove o rows row
      → (j : ℕ) → Represents (Below (holds words) rules (Edge true primary tree_nodes) j n) (row j)
  row_above t n rows row None e low s a j =
      subst (Represents (Below (holds words) rules (Edge true primary tree_nodes) j n)) (sym (a.of_none j refl))
      (none (Below (holds words) rules (Edge true primary tree_nodes) j n) (λ k l. (let both = sym l.1 ∙ e in cc)))
  row_above t n rows row (Some p) e low s a j =
      let b = below n p e in
      subst (Represents (Below (holds words) rules (Edge true primary tree_nodes) j n)) (sym (a.of_parent p j refl))
      (same (AcceptedLengthFrom (holds words) rules (Edge true primary tree_nodes) j p) (Below (holds words) rules (Edge true primary tree_nodes) j n) (cell rows p j)
      (s.known p j (let h = b.0 in omega arith) b.1)
      (λ k l. (let same : l.0 ≡ p = (let both = sym l.1 ∙ e in cc) in subst (λ c. AcceptedLengthFrom (holds words) rules (Edge true primary tree_nodes) j c k) same l.2))
      (λ k f. (p, e, f)))

  pub row_here : (n : ℕ) (rows : List (ℕ → ℕ)) (row : ℕ → ℕ) → UpInvariant Represents words rules primary tree_nodes n rows
      → IsAbove (joined primary tree_nodes n) rows row → (j : ℕ) → Represents (Below (holds words) rules (Edge true primary tree_nodes) j n) (row j)
  row_here n rows row s a = row_above n n rows row (joined primary tree_nodes n) refl (omega arith) s a

  pub stands_up : (n : ℕ) (rows : List (ℕ → ℕ)) (own : ℕ → ℕ) → n < length tree_nodes → UpInvariant Represents words rules primary tree_nodes n rows
      → ((i : ℕ) → Represents (AcceptedLengthFrom (holds words) rules (Edge true primary tree_nodes) i n) (own i))
      → UpInvariant Represents words rules primary tree_nodes (n + 1) (slice_set rows n own)
  stands_up n rows own low s known =
      let within : n < length rows = (let c = s.count in omega arith) in
      record {
        count = length-set rows n own ∙ s.count;
        known = λ m j less on. elim (cases_eq m n) [
          | inl is ↦ subst (Represents (AcceptedLengthFrom (holds words) rules (Edge true primary tree_nodes) j m)) (sym (set_cell rows n m j own is within))
              (subst (λ k. Represents (AcceptedLengthFrom (holds words) rules (Edge true primary tree_nodes) j k) (own j)) (sym is) (known j))
          | inr other ↦ subst (Represents (AcceptedLengthFrom (holds words) rules (Edge true primary tree_nodes) j m)) (sym (other_cell rows n m j own other)) (s.known m j (omega arith) on)
        ];
      }

  pub stands_up_same : (n : ℕ) (rows : List (ℕ → ℕ)) → UpInvariant Represents words rules primary tree_nodes n rows → is_searched tree_nodes n ≡ false → UpInvariant Represents words rules primary tree_nodes (n + 1) rows
  stands_up_same n rows s off = record {
    count = s.count;
    known = λ m j less on. elim (cases_eq m n) [
      | inl is ↦ absurd (let both = sym off ∙ ap (is_searched tree_nodes) (sym is) ∙ on in cc)
      | inr other ↦ s.known m j (omega arith) on
    ];
  }

pub stands_up_first : (Represents : Measure) (words : List ℕ) (rules : List Transition) (primary : Bool) (tree_nodes : List TreeNode) (rows : List (ℕ → ℕ)) → length rows ≡ length tree_nodes
    → UpInvariant Represents words rules primary tree_nodes 0 rows
stands_up_first Represents words rules primary tree_nodes rows size = record {
  count = size;
  known = λ n j less. absurd (omega (arith, less));
}

pub up_more : (P : ℕ → ℕ → Type 0) (searched : ℕ → Bool) (values : List (Option ℕ)) (v : Option ℕ) (node : ℕ) → node < length values
    → GreatestWhere (searched node) (P node) v → ((n : ℕ) → n < node → GreatestWhere (searched n) (P n) (get_or values n None))
    → (n : ℕ) → n < node + 1 → GreatestWhere (searched n) (P n) (get_or (slice_set values node v) n None)
up_more P searched values v node within here before n low = elim (cases_eq n node) [
  | inl is ↦
      let set : get_or (slice_set values node v) n None ≡ v = ap (λ k. get_or (slice_set values node v) k None) is ∙ get_or-set_same values node v None within in
      subst (GreatestWhere (searched n) (P n)) (sym set) (subst (λ k. GreatestWhere (searched k) (P k) v) (sym is) here)
  | inr other ↦ subst (GreatestWhere (searched n) (P n)) (sym (get_or-set_other values node n v None other)) (before n (omega arith))
]
