-- The steps from a node that lead nowhere, and the numbers of the nodes to which the others lead.
use Rattle.std.proofs.Common.{◌≡◌, ℕ, zero, suc, ◌+◌, ◌<◌, ◌↔◌, Bool, true, false, cond, List, [], ◌∷◌, length, get_or, Option, Some, None, refl, sym, ap, ap₂, ◌∙◌, subst, arith, ⊎_elim, ◌⊎◌}
use Rattle.std.specs.Prelude.{IfSome, IsNone, nat_lt, ◌&&◌}
use Rattle.std.specs.Option.{is_some}
use Rattle.std.specs.List.{find, filter, range_with_len}
use Rattle.std.proofs.lemmas.Bool.{lt-ltb, ltb-true, eq-eqb, false_from_ne_true}
use Rattle.cq_position.specs.declared.moves.Move.{Move}
use Rattle.cq_position.specs.Games.{Node, node_at, numbers, is_number, is_child_of, children, first_child, is_later_sibling, next_sibling, IsLastSibling, IsTree}
use Rattle.cq_position.proofs.Trees.{tree_first}
use Rattle.pgn_tree.proofs.Found.{find_none, find_some}
use Rattle.pgn_tree.specs.Links.{LinkedNode, linked_at, nodes_of, IsLinkedTree}
use Rattle.pgn_tree.proofs.Linking.{node_of}
use Rattle.pgn_tree.proofs.Changed.{within_items}
use Rattle.pgn_tree.proofs.LinkedNode.{number_is, child_within, read_at}

root_or_not : (k : ℕ) → (k ≡ 0) ⊎ (0 < k)
root_or_not k = grind arith

none_of_some : {A : Type 0} (o : Option A) (x : A) → o ≡ Some x → IsNone o → ⊥
none_of_some o x is none = (let e : true ≡ false = sym (ap is_some is) ∙ none in cc)

module _ (nodes : List Node) (tree : IsTree nodes) where
  -- at the root alone
  pub root_alone : (k : ℕ) → k < length nodes → IsNone (node_at nodes k).parent ↔ (k ≡ 0)
  root_alone k h = (
    λ none. ⊎_elim (λ is. is) (λ later. (let child = tree.children k later h in absurd (none_of_some (node_at nodes k).parent child.number child.parent none))) (root_or_not k),
    λ is. ap is_some (ap (λ i. (node_at nodes i).parent) is ∙ tree.root.parent),
  )

  pub unmoved_alone : (k : ℕ) → k < length nodes → IsNone (node_at nodes k).led_by ↔ (k ≡ 0)
  unmoved_alone k h = (
    λ none. ⊎_elim (λ is. is) (λ later. (let child = tree.children k later h in absurd (none_of_some (node_at nodes k).led_by child.move child.led_by none))) (root_or_not k),
    λ is. ap is_some (ap (λ i. (node_at nodes i).led_by) is ∙ tree.root.led_by),
  )

  if_some : (o : Option ℕ) (P : ℕ → Type 0) → ((k : ℕ) → o ≡ Some k → P k) → IfSome o P
  if_some None P each = tt
  if_some (Some k) P each = each k refl

  pub parent_before : (k : ℕ) → IfSome (node_at nodes k).parent (λ p. p < k)
  parent_before k = if_some (node_at nodes k).parent (λ p. p < k) (λ p is. (tree_first nodes tree).before k p is)

  found_passes : (f : ℕ → Bool) (a n k : ℕ) → find f (range_with_len a n) ≡ Some k → f k ≡ true
  found_passes f a zero k is = absurd cc
  found_passes f a (suc n) k is = passes_by f (f a) a k (find f (range_with_len (a + 1) n)) refl (λ e. found_passes f (a + 1) n k e) is
    where
      passes_by : (f : ℕ → Bool) (t : Bool) (a k : ℕ) (r : Option ℕ) → f a ≡ t → (r ≡ Some k → f k ≡ true) → cond t (Some a) r ≡ Some k → f k ≡ true
      passes_by f true a k r here later e = let same : a ≡ k = cc in ap f (sym same) ∙ here
      passes_by f false a k r here later e = later e

  pub first_after : (n : ℕ) → IfSome (first_child nodes n) (λ c. (n < c) × (c < length nodes))
  unfolding first_child
  first_after n = if_some (find (is_child_of nodes n) (numbers nodes)) (λ c. (n < c) × (c < length nodes))
      (λ c is.
      let child = found_passes (is_child_of nodes n) 0 (length nodes) c is in
      ((tree_first nodes tree).before c n (number_is (node_at nodes c).parent n child), child_within nodes n c child))

  none_found : (f : ℕ → Bool) (xs : List ℕ) → IsNone (find f xs) → filter f xs ≡ []
  none_found f [] none = refl
  none_found f (x ∷ xs) none = by (f x) (none_found f xs) none
    where
      by : (t : Bool) → (IsNone (find f xs) → filter f xs ≡ []) → IsNone (cond t (Some x) (find f xs)) → cond t (x ∷ filter f xs) (filter f xs) ≡ []
      by true later none = absurd cc
      by false later none = later none

  none_kept : (f : ℕ → Bool) (xs : List ℕ) → filter f xs ≡ [] → IsNone (find f xs)
  none_kept f [] none = refl
  none_kept f (x ∷ xs) none = by (f x) (none_kept f xs) none
    where
      by : (t : Bool) → (filter f xs ≡ [] → IsNone (find f xs)) → cond t (x ∷ filter f xs) (filter f xs) ≡ [] → IsNone (cond t (Some x) (find f xs))
      by true later none = absurd cc
      by false later none = later none

  pub childless : (n : ℕ) → IsNone (first_child nodes n) ↔ (children nodes n ≡ [])
  unfolding first_child children
  childless n = (none_found (is_child_of nodes n) (numbers nodes), none_kept (is_child_of nodes n) (numbers nodes))

  both : (a b : Bool) → (a && b) ≡ true → (a ≡ true) × (b ≡ true)
  both true b is = (refl, is)
  both false b is = absurd cc

  later_is : (o : Option ℕ) (n k : ℕ) → is_later_sibling nodes o n k ≡ true → (n < k) × ((node_at nodes k).parent ≡ o) × (k < length nodes)
  later_is None n k is = absurd cc
  later_is (Some p) n k is =
      let h = both (nat_lt n k) (is_child_of nodes p k) is in
      (ltb-true n k h.0, number_is (node_at nodes k).parent p h.1, child_within nodes p k h.1)

  pub next_after : (n : ℕ) → IfSome (next_sibling nodes n) (λ s. (n < s) × (s < length nodes))
  unfolding next_sibling
  next_after n = if_some (find (is_later_sibling nodes (node_at nodes n).parent n) (numbers nodes)) (λ s. (n < s) × (s < length nodes))
      (λ s is.
      let later = later_is (node_at nodes n).parent n s (found_passes (is_later_sibling nodes (node_at nodes n).parent n) 0 (length nodes) s is) in
      (later.0, later.2))

  is_later : (o : Option ℕ) (n k : ℕ) → (0 < k) → n < k → k < length nodes → (node_at nodes k).parent ≡ o → is_later_sibling nodes o n k ≡ true
  is_later None n k some_ less h same = (let child = tree.children k some_ h in absurd (let e : Some child.number ≡ None = sym child.parent ∙ same in cc))
  is_later (Some p) n k some_ less h same = ap₂ (λ a b. a && b) (lt-ltb n k less) (ap (λ o. is_number o p) same ∙ eq-eqb p p refl)

  pub last_of_siblings : (n : ℕ) → IsNone (next_sibling nodes n) ↔ IsLastSibling nodes n
  unfolding next_sibling
  last_of_siblings n =
      let o = (node_at nodes n).parent in (
        λ none. record {
          other = λ k less h same.
              (let found = find_some (is_later_sibling nodes o n) 0 (length nodes) k (omega arith) (omega (arith, h)) (is_later o n k (omega (arith, less)) less h same) in
              let e : true ≡ false = sym found ∙ none in absurd cc);
        },
        λ last. ap is_some (find_none (is_later_sibling nodes o n) 0 (length nodes)
            (λ k low high. false_from_ne_true (is_later_sibling nodes o n k) (λ is. let later = later_is o n k is in last.other k later.0 later.2 later.1))),
      )

-- a node as the code reads it
module _ (items : List LinkedNode) (nodes : List Node) (same : nodes_of items ≡ nodes) (kept : IsLinkedTree items) (k : ℕ) (h : k < length nodes) (y : LinkedNode) (y_is : y ≡ get_or items k y) where
  tree_is : IsTree nodes
  tree_is = subst IsTree same kept.tree

  here : y ≡ linked_at items k
  here = read_at items k y (within_items items k same h) y_is

  node_is : y.node ≡ node_at nodes k
  node_is = ap (λ z. z.node) here ∙ sym (node_of items k) ∙ ap (λ l. node_at l k) same

  first_is : y.first_child ≡ first_child nodes k
  first_is = ap (λ z. z.first_child) here ∙ kept.links.first_child k (within_items items k same h) ∙ ap (λ l. first_child l k) same

  next_is : y.next_sibling ≡ next_sibling nodes k
  next_is = ap (λ z. z.next_sibling) here ∙ kept.links.next_sibling k (within_items items k same h) ∙ ap (λ l. next_sibling l k) same

  pub parent_root : (r : Option ℕ) → r ≡ y.node.parent → IsNone r ↔ (k ≡ 0)
  parent_root r is = subst (λ o. IsNone o ↔ (k ≡ 0)) (sym (is ∙ ap (λ n. n.parent) node_is)) (root_alone nodes tree_is k h)

  pub parent_is_before : (r : Option ℕ) → r ≡ y.node.parent → IfSome r (λ p. p < k)
  parent_is_before r is = subst (λ o. IfSome o (λ p. p < k)) (sym (is ∙ ap (λ n. n.parent) node_is)) (parent_before nodes tree_is k)

  pub unmoved_root : (r : Option Move) → r ≡ y.node.led_by → IsNone r ↔ (k ≡ 0)
  unmoved_root r is = subst (λ o. IsNone o ↔ (k ≡ 0)) (sym (is ∙ ap (λ n. n.led_by) node_is)) (unmoved_alone nodes tree_is k h)

  pub no_first : (r : Option ℕ) → r ≡ y.first_child → IsNone r ↔ (children nodes k ≡ [])
  no_first r is = subst (λ o. IsNone o ↔ (children nodes k ≡ [])) (sym (is ∙ first_is)) (childless nodes tree_is k)

  pub first_is_after : (r : Option ℕ) → r ≡ y.first_child → IfSome r (λ c. (k < c) × (c < length nodes))
  first_is_after r is = subst (λ o. IfSome o (λ c. (k < c) × (c < length nodes))) (sym (is ∙ first_is)) (first_after nodes tree_is k)

  pub no_next : (r : Option ℕ) → r ≡ y.next_sibling → IsNone r ↔ IsLastSibling nodes k
  no_next r is = subst (λ o. IsNone o ↔ IsLastSibling nodes k) (sym (is ∙ next_is)) (last_of_siblings nodes tree_is k)

  pub next_is_after : (r : Option ℕ) → r ≡ y.next_sibling → IfSome r (λ s. (k < s) × (s < length nodes))
  next_is_after r is = subst (λ o. IfSome o (λ s. (k < s) × (s < length nodes))) (sym (is ∙ next_is)) (next_after nodes tree_is k)
