-- A bit put into a table, and a node added to a tree.
use Rattle.std.proofs.Common.{◌≡◌, ◌≢◌, ℕ, zero, suc, ◌<◌, ◌⊎◌, inl, inr, Bool, true, false, ◌&&◌, ◌||◌, not, List, [], ◌∷◌, ◌++◌, length, get_or, Option, Some, None, slice_get, slice_set, refl, sym, ap, ◌∙◌, subst, arith}
use Rattle.std.specs.Prelude.{if◌then◌else◌, IfSome}
use Rattle.std.proofs.lemmas.Bool.{cases_eq}
use Rattle.std.proofs.lemmas.List.{get_or-set_same, get_or-set_other}
use Rattle.cql_lines.specs.declared.shape.TreeNode.{TreeNode}
use Rattle.cql_lines.specs.Internal.Lengths.{is_set, at}
use Rattle.cql_lines.specs.Tables.{holds}
use Rattle.cql_lines.specs.Shapes.{joined, joined_by, is_searched}

pub put_here : (words : List ℕ) (node word atom : ℕ) → node < length words → is_set word atom ≡ true → holds (slice_set words node word) atom node ≡ true
put_here words node word atom low set = ap (λ w. is_set w atom) (get_or-set_same words node word 0 low) ∙ set

pub put_there : (words : List ℕ) (node word atom a n : ℕ) → node < length words → ((b : ℕ) → b ≢ atom → is_set word b ≡ is_set (at words node) b) → ((a ≡ atom) × (n ≡ node) → ⊥)
    → holds (slice_set words node word) a n ≡ holds words a n
put_there words node word atom a n low same other = elim (cases_eq n node) [
  | inl here ↦ ap (λ k. holds (slice_set words node word) a k) here ∙ ap (λ w. is_set w a) (get_or-set_same words node word 0 low)
      ∙ same a (λ e. other (e, here)) ∙ ap (λ k. holds words a k) (sym here)
  | inr apart ↦ ap (λ w. is_set w a) (get_or-set_other words node n word 0 apart)
]

-- the nodes of a list with one more at its end
in_longer : (tree_nodes : List TreeNode) (s : TreeNode) (n : ℕ) → (slice_get (tree_nodes ++ s ∷ []) n ≡ slice_get tree_nodes n) ⊎ ((n ≡ length tree_nodes) × (slice_get (tree_nodes ++ s ∷ []) n ≡ Some s))
in_longer [] s zero = inr (refl, refl)
in_longer [] s (suc n) = inl refl
in_longer (x ∷ tree_nodes) s zero = inl refl
in_longer (x ∷ tree_nodes) s (suc n) = elim (in_longer tree_nodes s n) [
  | inl e ↦ inl e
  | inr e ↦ inr (ap suc e.0, e.1)
]

-- the node above is the parent of a searched node
above_is : (primary : Bool) (s : TreeNode) (p : ℕ) → joined_by primary (Some s) ≡ Some p → (s.parent ≡ Some p) × (s.searched ≡ true)
above_is primary s p e = by_test s.searched (s.first || not primary) refl e
  where
    by_test : (a b : Bool) → s.searched ≡ a → (if a && b then s.parent else None) ≡ Some p → (s.parent ≡ Some p) × (s.searched ≡ true)
    by_test true true is f = (f, is)
    by_test true false is f = absurd (cc)
    by_test false b is f = absurd (cc)

stays_searched : (tree_nodes : List TreeNode) (s : TreeNode) (p : ℕ) → is_searched tree_nodes p ≡ true → is_searched (tree_nodes ++ s ∷ []) p ≡ true
stays_searched [] s p e = absurd (cc)
stays_searched (x ∷ tree_nodes) s zero e = e
stays_searched (x ∷ tree_nodes) s (suc p) e = stays_searched tree_nodes s p e

pub below_more : (primary : Bool) (tree_nodes : List TreeNode) (s : TreeNode) → ((p : ℕ) → s.parent ≡ Some p → p < length tree_nodes) → ((n p : ℕ) → joined primary tree_nodes n ≡ Some p → p < n)
    → (n p : ℕ) → joined primary (tree_nodes ++ s ∷ []) n ≡ Some p → p < n
below_more primary tree_nodes s parent all n p e = elim (in_longer tree_nodes s n) [
  | inl old ↦ all n p (sym (ap (joined_by primary) old) ∙ e)
  | inr new ↦ let h = parent p (above_is primary s p (sym (ap (joined_by primary) new.1) ∙ e)).0 in let i = new.0 in omega arith
]

pub whole_more : (primary : Bool) (tree_nodes : List TreeNode) (s : TreeNode) → ((p : ℕ) → s.parent ≡ Some p → s.searched ≡ true → is_searched tree_nodes p ≡ true)
    → ((n p : ℕ) → joined primary tree_nodes n ≡ Some p → is_searched tree_nodes p ≡ true) → (n p : ℕ) → joined primary (tree_nodes ++ s ∷ []) n ≡ Some p → is_searched (tree_nodes ++ s ∷ []) p ≡ true
whole_more primary tree_nodes s parent all n p e = elim (in_longer tree_nodes s n) [
  | inl old ↦ stays_searched tree_nodes s p (all n p (sym (ap (joined_by primary) old) ∙ e))
  | inr new ↦ let h = above_is primary s p (sym (ap (joined_by primary) new.1) ∙ e) in stays_searched tree_nodes s p (parent p h.0 h.1)
]

-- each node comes after the one above it, which is searched
pub record IsTree (primary : Bool) (tree_nodes : List TreeNode) : Type 0 where
  pub below : (n p : ℕ) → joined primary tree_nodes n ≡ Some p → p < n
  pub whole : (n p : ℕ) → joined primary tree_nodes n ≡ Some p → is_searched tree_nodes p ≡ true

of_some : (o : Option ℕ) (P : ℕ → Type 0) → IfSome o P → (p : ℕ) → o ≡ Some p → P p
of_some o P h p e = subst (λ (x : Option ℕ). IfSome x P) e h

pub push_keeps : (primary : Bool) (old new : List TreeNode) (s : TreeNode) (b : Bool) → new ≡ (if b then old ++ s ∷ [] else old) → IfSome s.parent (λ p. p < length old)
    → IfSome s.parent (λ p. s.searched ≡ true → is_searched old p ≡ true) → IsTree primary old → IsTree primary new
push_keeps primary old new s true e parent searched tree = subst (IsTree primary) (sym e) record {
  below = below_more primary old s (of_some s.parent (λ p. p < length old) parent) tree.below;
  whole = whole_more primary old s (of_some s.parent (λ p. s.searched ≡ true → is_searched old p ≡ true) searched) tree.whole;
}
push_keeps primary old new s false e parent searched tree = subst (IsTree primary) (sym e) tree

pub any_default : (xs : List ℕ) (i d e : ℕ) → i < length xs → get_or xs i d ≡ get_or xs i e
any_default [] i d e low = absurd (omega arith)
any_default (x ∷ xs) zero d e low = refl
any_default (x ∷ xs) (suc i) d e low = any_default xs i d e (omega arith)
