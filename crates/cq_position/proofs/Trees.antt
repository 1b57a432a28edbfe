-- Trees of nodes: their invariants, and their growth.
use Rattle.std.proofs.Common.{◌≡◌, suc, zero, ℕ, ◌+◌, ◌-◌, ◌<◌, ◌≤◌, ◌⊎◌, ⊎_elim, List, [], ◌∷◌, ◌++◌, length, Some, None, sym, ap, ◌∙◌, subst, arith, length-append}
use Rattle.std.specs.Prelude.{Contains}
use Rattle.std.proofs.lemmas.List.{get_or_append_left, get_or_past}
use Rattle.std.proofs.Math.Seq.{get_or-append_seam}
use Rattle.cq_position.specs.declared.moves.Move.{Move}
use Rattle.cq_position.specs.Legal.{Leads}
use Rattle.cq_position.specs.Games.{Node, no_node, node_at, way_up, IsSamePlace, IsChild, IsTree}
use Rattle.cq_position.proofs.Ancestors.{AreParentsFirst, HaveSameParents, way_same, way_self, way_step}
use Rattle.std.proofs.lemmas.List.Elements.{Contains-append_right}

cases : (n k : ℕ) → (n ≡ 0) ⊎ ((0 < n) × (n < k)) ⊎ (k ≤ n)
cases n k = grind arith

some_is : (p q : ℕ) → Some p ≡ Some q → p ≡ q
some_is p q e = cc

pub tree_first : (nodes : List Node) → IsTree nodes → AreParentsFirst nodes
tree_first nodes tree = record { before = λ n p is. ⊎_elim (at_root n p is) (⊎_elim (at_child n p is) (past n p is)) (cases n (length nodes)) }
  where
    at_root : (n p : ℕ) → (node_at nodes n).parent ≡ Some p → n ≡ 0 → p < n
    at_root n p is root = absurd (let e : None ≡ Some p = sym tree.root.parent ∙ ap (λ i. (node_at nodes i).parent) (sym root) ∙ is in cc)

    at_child : (n p : ℕ) → (node_at nodes n).parent ≡ Some p → (0 < n) × (n < length nodes) → p < n
    at_child n p is h =
        let child = tree.children n h.0 h.1 in
        let same = some_is child.number p (sym child.parent ∙ is) in
        omega (arith, child.after, same)

    past : (n p : ℕ) → (node_at nodes n).parent ≡ Some p → length nodes ≤ n → p < n
    past n p is h = absurd (let e : None ≡ Some p = ap (λ x. x.parent) (sym (get_or_past nodes n no_node h)) ∙ is in cc)

-- nodes in the same places as another list's, up to a number
pub record HaveSamePlaces (a b : List Node) (n : ℕ) : Type 0 where
  pub place : (m : ℕ) → m ≤ n → IsSamePlace (node_at a m) (node_at b m)

pub same_parents : (a b : List Node) (n k : ℕ) → HaveSamePlaces a b n → k ≤ n → HaveSameParents a b k
same_parents a b n k same h = record { same = λ m less. (same.place m (omega (arith, h, less))).parent }

pub same_child : (a b : List Node) (n : ℕ) → AreParentsFirst a → HaveSamePlaces a b n → IsChild a n → IsChild b n
same_child a b n first same child =
    let here = same.place n (omega arith) in
    let parent = same.place child.number (omega (arith, child.after)) in
    record {
      number = child.number;
      move = child.move;
      parent = sym here.parent ∙ child.parent;
      led_by = sym here.led_by ∙ child.led_by;
      after = child.after;
      leads = subst (λ p. Leads p child.move (node_at b n).position) parent.position (subst (λ q. Leads (node_at a child.number).position child.move q) here.position child.leads);
      preorder = subst (λ l. Contains l child.number) (way_same a b first (n - 1) (same_parents a b n (n - 1) same (omega arith))) child.preorder;
    }

pub same_tree : (a b : List Node) → 0 < length b → length b ≤ length a → HaveSamePlaces a b (length b - 1) → IsTree a → IsTree b
same_tree a b some_ few same tree =
    let root = same.place 0 (omega arith) in
    record {
      rooted = some_;
      few = omega (arith, few, tree.few);
      root = record { parent = sym root.parent ∙ tree.root.parent; led_by = sym root.led_by ∙ tree.root.led_by };
      children = λ n later h. same_child a b n (tree_first a tree) (record { place = λ m less. same.place m (omega (arith, less, h)) }) (tree.children n later (omega (arith, h, few)));
    }

pub same_place : (x y : Node) → x ≡ y → IsSamePlace x y
same_place x y is = record { parent = ap (λ n. n.parent) is; led_by = ap (λ n. n.led_by) is; position = ap (λ n. n.position) is }

pub prefix_places : (xs ys : List Node) (n : ℕ) → n < length xs → HaveSamePlaces (xs ++ ys) xs n
prefix_places xs ys n h = record { place = λ m less. same_place (node_at (xs ++ ys) m) (node_at xs m) (get_or_append_left xs ys no_node m (omega (arith, less, h))) }

pub longer_places : (xs ys : List Node) (n : ℕ) → n < length xs → HaveSamePlaces xs (xs ++ ys) n
longer_places xs ys n h = record { place = λ m less. same_place (node_at xs m) (node_at (xs ++ ys) m) (sym (get_or_append_left xs ys no_node m (omega (arith, less, h)))) }

-- the first nodes of a tree are one
pub prefix_tree : (xs ys : List Node) → 0 < length xs → IsTree (xs ++ ys) → IsTree xs
prefix_tree xs ys some_ tree = same_tree (xs ++ ys) xs some_ (let len = length-append xs ys in omega (arith, len)) (prefix_places xs ys (length xs - 1) (omega (arith, some_))) tree

pub way_in_prefix : (xs ys : List Node) (n : ℕ) → IsTree xs → n < length xs → way_up xs n ≡ way_up (xs ++ ys) n
way_in_prefix xs ys n tree h = way_same xs (xs ++ ys) (tree_first xs tree) n (same_parents xs (xs ++ ys) n n (longer_places xs ys n h) (omega arith))

-- a node may be added
pub record MayFollow (nodes : List Node) (x : Node) : Type 0 where
  pub number : ℕ
  pub move : Move
  pub parent : x.parent ≡ Some number
  pub led_by : x.led_by ≡ Some move
  pub within : number < length nodes
  pub leads : Leads (node_at nodes number).position move x.position
  pub preorder : Contains (way_up nodes (length nodes - 1)) number

pub tree_push : (nodes : List Node) (x : Node) → length nodes < 65536 → MayFollow nodes x → IsTree nodes → IsTree (nodes ++ x ∷ [])
tree_push nodes x few may tree =
    let len : length (nodes ++ x ∷ []) ≡ length nodes + 1 = length-append nodes (x ∷ []) in
    let some_ = tree.rooted in
    let root = (longer_places nodes (x ∷ []) 0 some_).place 0 (omega arith) in
    record {
      rooted = omega (arith, len);
      few = omega (arith, len, few);
      root = record { parent = sym root.parent ∙ tree.root.parent; led_by = sym root.led_by ∙ tree.root.led_by };
      children = λ n later h. ⊎_elim (old n later) (new n) (last n (omega (arith, h, len)));
    }
  where
    all : List Node
    all = nodes ++ x ∷ []

    last : (n : ℕ) → n < length nodes + 1 → (n < length nodes) ⊎ (n ≡ length nodes)
    last n h = grind arith

    old : (n : ℕ) → 0 < n → n < length nodes → IsChild all n
    old n later h = same_child nodes all n (tree_first nodes tree) (longer_places nodes (x ∷ []) n h) (tree.children n later h)

    here : node_at all (length nodes) ≡ x
    here = get_or-append_seam nodes x [] no_node

    at_end : IsChild all (length nodes)
    at_end = record {
      number = may.number;
      move = may.move;
      parent = ap (λ n. n.parent) here ∙ may.parent;
      led_by = ap (λ n. n.led_by) here ∙ may.led_by;
      after = may.within;
      leads = subst (λ p. Leads p may.move (node_at all (length nodes)).position) (ap (λ n. n.position) (sym (get_or_append_left nodes (x ∷ []) no_node may.number may.within)))
          (subst (λ q. Leads (node_at nodes may.number).position may.move q) (ap (λ n. n.position) (sym here)) may.leads);
      preorder = subst (λ l. Contains l may.number) (way_in_prefix nodes (x ∷ []) (length nodes - 1) tree (omega (arith, tree.rooted))) may.preorder;
    }

    new : (n : ℕ) → n ≡ length nodes → IsChild all n
    new n is = subst (IsChild all) (sym is) at_end

root_within : (nodes : List Node) → IsTree nodes → (i n : ℕ) → n < i → n < length nodes → Contains (way_up nodes n) 0
root_within nodes tree zero n h within = absurd (omega (arith, h))
root_within nodes tree (suc i) n h within = ⊎_elim
    (λ root. subst (λ k. Contains (way_up nodes k) 0) (sym root) (way_self nodes (tree_first nodes tree) 0))
    (⊎_elim
    (λ later. let child = tree.children n later.0 within in
    subst (λ l. Contains l 0) (sym (way_step nodes (tree_first nodes tree) n child.number child.parent))
    (Contains-append_right (n ∷ []) (way_up nodes child.number) 0 (root_within nodes tree i child.number (omega (arith, child.after, h)) (omega (arith, child.after, within)))))
    (λ past. absurd (omega (arith, past, within))))
    (cases n (length nodes))

-- every way up ends at the root
pub root_on_way : (nodes : List Node) → IsTree nodes → (n : ℕ) → n < length nodes → Contains (way_up nodes n) 0
root_on_way nodes tree n h = root_within nodes tree (n + 1) n (omega arith) h

pub self_on_way : (nodes : List Node) → IsTree nodes → (n : ℕ) → Contains (way_up nodes n) n
self_on_way nodes tree n = way_self nodes (tree_first nodes tree) n
