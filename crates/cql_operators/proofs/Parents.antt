-- The parents of the nodes of a set, by one pass over them, and the nodes on the ways up.
use Rattle.std.proofs.Common.{◌≡◌, ℕ, zero, suc, ◌+◌, ◌<◌, ◌≤◌, ◌⊎◌, ◌&&◌, Bool, true, false, List, length, get_or, Option, Some, None, refl, sym, ap, ◌∙◌, subst, arith, inl, inr, ⊎_elim}
use Rattle.std.specs.Prelude.{replicate, unwrap_or}
use Rattle.cq_position.specs.Games.{Node, node_at, IsTree, is_below, is_child_of, is_searched}
use Rattle.cq_position.specs.Search.{SearchedTree}
use Rattle.cq_position.proofs.WaysUp.{below_parent, root_below, parent_before, searched_up}
use Rattle.cql_values.proofs.Ranges.{left, right, both}
use Rattle.cql_columns.specs.Columns.{IsNodeSet}
use Rattle.cql_columns.proofs.Filling.{equal_or, split_last, live_below, or_left, or_right}
use Rattle.cql_operators.specs.Trees.{AddsParent, AreWithAncestors, HasParents, IsAboveLive, AreParentsOfLive, AreBeforeLive}
use Rattle.cql_operators.proofs.Raising.{either, child_is, is_child}

-- a node was there, or is the parent of one of the first t that are in the set
abbrev pub HasParent : List Node → (set start : List Bool) → ℕ → ℕ → Type 0
HasParent nodes set start t n = (get_or start n false ≡ true) ⊎ ((k : ℕ) × (k < t) × (get_or set k false ≡ true) × ((node_at nodes k).parent ≡ Some n))

pub record HasParentsTo (nodes : List Node) (set start : List Bool) (t : ℕ) (found : List Bool) : Type 0 where
  pub count : length found ≡ length start
  pub to : (n : ℕ) → get_or found n false ≡ true → HasParent nodes set start t n
  pub from : (n : ℕ) → HasParent nodes set start t n → get_or found n false ≡ true

pub parents_begun : (nodes : List Node) (set start : List Bool) → HasParentsTo nodes set start 0 start
parents_begun nodes set start = record {
  count = refl;
  to = λ n e. inl e;
  from = λ n h. ⊎_elim (λ e. e) (λ by. absurd (omega (arith, by.1))) h;
}

pub parents_more : (nodes : List Node) (set start old new : List Bool) (k : ℕ) (there : Bool) → there ≡ get_or set k false → AddsParent nodes k there old new
    → HasParentsTo nodes set start k old → HasParentsTo nodes set start (k + 1) new
parents_more nodes set start old new k there is r had = record {
  count = r.count ∙ had.count;
  to = λ n e. ⊎_elim
      (λ before. ⊎_elim (λ s. inl s) (λ by. inr (by.0, omega (arith, by.1), by.2, by.3)) (had.to n before))
      (λ here. inr (k, omega arith, sym is ∙ left there (is_child_of nodes n k) here, child_is n (node_at nodes k).parent (right there (is_child_of nodes n k) here)))
      (either (get_or old n false) (there && is_child_of nodes n k) (sym (r.each n) ∙ e));
  from = λ n h. ⊎_elim
      (λ s. keeps n (had.from n (inl s)))
      (λ by. ⊎_elim
      (λ less. keeps n (had.from n (inr (by.0, less, by.2, by.3))))
      (λ same. r.each n ∙ or_right (get_or old n false) (there && is_child_of nodes n k)
      (both there (is_child_of nodes n k) (is ∙ ap (λ i. get_or set i false) (sym same) ∙ by.2) (is_child n (node_at nodes k).parent (ap (λ i. (node_at nodes i).parent) (sym same) ∙ by.3))))
      (split_last by.0 k by.1))
      h;
}
  where
    keeps : (n : ℕ) → get_or old n false ≡ true → get_or new n false ≡ true
    keeps n e = r.each n ∙ or_left (get_or old n false) (there && is_child_of nodes n k) e

pub parents_all : (nodes : List Node) (set start found : List Bool) (t : ℕ) → length set ≤ t → HasParentsTo nodes set start t found → HasParents nodes set start found
parents_all nodes set start found t end had = record {
  count = had.count;
  each = λ n. (
    λ e. ⊎_elim (λ s. inl s) (λ by. inr (by.0, by.2, by.3)) (had.to n e),
    λ h. had.from n (⊎_elim (λ s. inl s) (λ by. inr (by.0, omega (arith, live_below set by.0 by.1, end), by.1, by.2)) h),
  );
}

pub nowhere : (count n : ℕ) → get_or (replicate count false) n false ≡ false
nowhere zero zero = refl
nowhere zero (suc n) = refl
nowhere (suc count) zero = refl
nowhere (suc count) (suc n) = nowhere count n

-- no node is of an empty set
pub none_there : (set : List Bool) (count n : ℕ) → set ≡ replicate count false → get_or set n false ≡ true → ⊥
none_there set count n is e = let f : true ≡ false = sym e ∙ ap (λ l. get_or l n false) is ∙ nowhere count n in cc

module _ (tree : SearchedTree) (is_tree : IsTree tree.game.nodes) (live : List Bool) (asked : IsNodeSet tree live) where
  parents_searched : (start found : List Bool) → ((n : ℕ) → get_or start n false ≡ true → is_searched tree.variations tree.game.nodes n ≡ true) → HasParents tree.game.nodes live start found
      → (n : ℕ) → get_or found n false ≡ true → is_searched tree.variations tree.game.nodes n ≡ true
  parents_searched start found begun has n e = ⊎_elim (λ s. begun n s)
      (λ by. searched_up tree.variations tree.game.nodes by.0 n is_tree by.2 (asked.searched by.0 by.1)) ((has.each n).0 e)

  pub parents_asked : (start given found : List Bool) (count : ℕ) → given ≡ live → start ≡ replicate count false → length start ≡ length tree.game.nodes
      → HasParents tree.game.nodes given start found → AreParentsOfLive tree live found
  parents_asked start given found count same none long has_given = record {
    asked = record { count = has.count ∙ long; searched = parents_searched start found (λ n s. absurd (none_there start count n none s)) has };
    covers = λ n p l is. (has.each p).1 (inr (n, l, is));
  }
    where
      has : HasParents tree.game.nodes live start found
      has = subst (λ l. HasParents tree.game.nodes l start found) same has_given

  before_by : (found : List Bool) (n : ℕ) (o : Option ℕ) → (node_at tree.game.nodes n).parent ≡ o → get_or found n false ≡ true → ((p : ℕ) → o ≡ Some p → get_or found p false ≡ true)
      → get_or found (unwrap_or o n) false ≡ true
  before_by found n None is here up = here
  before_by found n (Some p) is here up = up p refl

  pub befores_asked : (start given found : List Bool) → given ≡ live → start ≡ live → HasParents tree.game.nodes given start found → AreBeforeLive tree live found
  befores_asked start given found same begun has_given = record {
    asked = record {
      count = has.count ∙ asked.count;
      searched = parents_searched live found (λ n s. asked.searched n s) has;
    };
    covers = λ n l. before_by found n (node_at tree.game.nodes n).parent refl ((has.each n).1 (inl l)) (λ p is. (has.each p).1 (inr (n, l, is)));
  }
    where
      has : HasParents tree.game.nodes live live found
      has = subst (λ l. HasParents tree.game.nodes live l found) begun (subst (λ l. HasParents tree.game.nodes l start found) same has_given)

  -- a node above a searched node is searched
  up_at : (m n : ℕ) (o : Option ℕ)
      → ((p : ℕ) → p < n → is_below tree.game.nodes m p ≡ true → is_searched tree.variations tree.game.nodes p ≡ true → is_searched tree.variations tree.game.nodes m ≡ true)
      → is_below tree.game.nodes m n ≡ true → is_searched tree.variations tree.game.nodes n ≡ true → (n ≡ m → ⊥) → (node_at tree.game.nodes n).parent ≡ o
      → is_searched tree.variations tree.game.nodes m ≡ true
  up_at m n None up b s other is = absurd (let e : true ≡ false = sym b ∙ root_below tree.game.nodes m n is_tree is other in cc)
  up_at m n (Some p) up b s other is =
      up p (parent_before tree.game.nodes n p is_tree is).0 (sym (below_parent tree.game.nodes m n p is_tree is other) ∙ b) (searched_up tree.variations tree.game.nodes n p is_tree is s)

  up_within : (i m n : ℕ) → n < i → is_below tree.game.nodes m n ≡ true → is_searched tree.variations tree.game.nodes n ≡ true → is_searched tree.variations tree.game.nodes m ≡ true
  up_within zero m n h b s = absurd (omega (arith, h))
  up_within (suc i) m n h b s = ⊎_elim
      (λ same. subst (λ k. is_searched tree.variations tree.game.nodes k ≡ true) same s)
      (λ other. up_at m n (node_at tree.game.nodes n).parent (λ p less below up. up_within i m p (omega (arith, h, less)) below up) b s other refl)
      (equal_or n m)

  pub above_asked : (start found : List Bool) → start ≡ live → AreWithAncestors tree.game.nodes start found → IsAboveLive tree live found
  above_asked start found begun raised_start = record {
    asked = record {
      count = with_ancestors.count ∙ asked.count;
      searched = λ m e. let x = (with_ancestors.each m).0 e in up_within (x.0 + 1) m x.0 (omega arith) x.2 (asked.searched x.0 x.1);
    };
    covers = λ n m l b. (with_ancestors.each m).1 (n, l, b);
  }
    where
      with_ancestors : AreWithAncestors tree.game.nodes live found
      with_ancestors = subst (λ l. AreWithAncestors tree.game.nodes l found) begun raised_start
