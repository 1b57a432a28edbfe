-- Nodes are a tree exactly if the moves of their continuations follow one another.
use Rattle.std.proofs.Common.{◌≡◌, ℕ, ◌+◌, ◌-◌, ◌<◌, ◌≤◌, List, [], ◌∷◌, ◌++◌, length, Some, refl, sym, ap, ◌∙◌, subst, arith, append_assoc, append-nil, length-append}
use Rattle.std.specs.Prelude.{Contains}
use Rattle.std.proofs.lemmas.List.{get_or_append_left}
use Rattle.std.proofs.Math.Seq.{get_or-append_seam}
use Rattle.std.proofs.lemmas.List.Elements.{Contains-append_right}
use Rattle.cq_position.specs.declared.moves.Move.{Move}
use Rattle.cq_position.specs.Legal.{Leads}
use Rattle.cq_position.specs.Games.{Node, no_node, node_at, way_up, IsRoot, IsTree}
use Rattle.cq_position.specs.Continuations.{Continuations, none, played, size, node_of, nodes_from, Follows}
use Rattle.cq_position.proofs.Ancestors.{way_step, way_self, way_on}
use Rattle.cq_position.proofs.Trees.{tree_first, way_in_prefix, tree_push}
use Rattle.cq_position.proofs.Nested.{length_nodes}

-- a tree with continuations of node p added, and all of the way up from p still on the way up from the last node
pub record Grown (xs : List Node) (k p : ℕ) (c : Continuations) : Type 0 where
  pub tree : IsTree (xs ++ nodes_from p k c)
  pub stays : (q : ℕ) → Contains (way_up xs p) q → Contains (way_up (xs ++ nodes_from p k c) (length (xs ++ nodes_from p k c) - 1)) q

pub grown : (c : Continuations) (xs : List Node) (k p : ℕ) → k ≡ length xs → p < k → IsTree xs → Contains (way_up xs (k - 1)) p
    → Follows (node_at xs p).position c → k + size c ≤ 65536 → Grown xs k p c
unfolding nodes_from Follows
grown none xs k p at less tree on follows few =
    record {
      tree = subst IsTree (sym (append-nil xs)) tree;
      stays = λ q h. subst (λ l. Contains (way_up l (length l - 1)) q) (sym (append-nil xs))
          (subst (λ j. Contains (way_up xs (j - 1)) q) at (way_on xs (tree_first xs tree) (k - 1) p q on h));
    }
grown (played m next others) xs k p at less tree on follows few =
    let x = node_of p m in
    let one = xs ++ x ∷ [] in
    let len = length-append xs (x ∷ []) in
    let tree_one : IsTree one = tree_push xs x (omega (arith, at, few))
    (record { number = p; move = m.move; parent = refl; led_by = refl; within = omega (arith, at, less); leads = follows.0; preorder = subst (λ j. Contains (way_up xs (j - 1)) p) at on }) tree in
    let here : node_at one k ≡ x = ap (node_at one) at ∙ get_or-append_seam xs x [] no_node in
    let first_one = tree_first one tree_one in
    let inner = grown next one (k + 1) k (omega (arith, len, at)) (omega arith) tree_one
    (subst (λ j. Contains (way_up one j) k) (let e : k ≡ k + 1 - 1 = omega arith in e) (way_self one first_one k))
    (subst (λ b. Follows b next) (ap (λ n. n.position) (sym here)) follows.1) (omega (arith, few)) in
    let a = nodes_from k (k + 1) next in
    let two = one ++ a in
    let len_a = length_nodes k (k + 1) next in
    let len_two = length-append one a in
    let two_is : k + 1 + size next ≡ length two = omega (arith, len, len_a, len_two, at) in
    let parent_here : (node_at one k).parent ≡ Some p = ap (λ n. n.parent) here in
    let on_two : Contains (way_up two (length two - 1)) p = inner.stays p
    (subst (λ l. Contains l p) (sym (way_step one first_one k p parent_here)) (Contains-append_right (k ∷ []) (way_up one p) p (way_self one first_one p))) in
    let old : node_at two p ≡ node_at xs p = get_or_append_left one a no_node p (omega (arith, less, len, at)) ∙ get_or_append_left xs (x ∷ []) no_node p (omega (arith, less, at)) in
    let outer = grown others two (k + 1 + size next) p two_is (omega (arith, less)) inner.tree
    (subst (λ j. Contains (way_up two (j - 1)) p) (sym two_is) on_two)
    (subst (λ b. Follows b others) (ap (λ n. n.position) (sym old)) follows.2) (omega (arith, few)) in
    let b = nodes_from p (k + 1 + size next) others in
    let all : two ++ b ≡ xs ++ x ∷ (a ++ b) = append_assoc one a b ∙ append_assoc xs (x ∷ []) (a ++ b) in
    let way : way_up xs p ≡ way_up two p = way_in_prefix xs (x ∷ []) p tree (omega (arith, less, at)) ∙ way_in_prefix one a p tree_one (omega (arith, less, len, at)) in
    record {
      tree = subst IsTree all outer.tree;
      stays = λ q h. subst (λ l. Contains (way_up l (length l - 1)) q) all (outer.stays q (subst (λ l. Contains l q) way h));
    }

-- the root alone is a tree
pub root_tree : (root : Node) → IsRoot root → IsTree (root ∷ [])
root_tree root is = record { rooted = omega arith; few = omega arith; root = is; children = λ n later h. absurd (omega (arith, later, h)) }

-- the nodes are a tree if each move leads from the position before it to its own
pub tree_of : (root : Node) (c : Continuations) → IsRoot root → size c < 65536 → Follows root.position c → IsTree (root ∷ nodes_from 0 1 c)
tree_of root c is few follows =
    let tree = root_tree root is in
    (grown c (root ∷ []) 1 0 refl (omega arith) tree (way_self (root ∷ []) (tree_first (root ∷ []) tree) 0) follows (omega (arith, few))).tree

follows_in : (c : Continuations) (xs more : List Node) (k p : ℕ) → k ≡ length xs → p < k → IsTree (xs ++ (nodes_from p k c ++ more)) → Follows (node_at (xs ++ (nodes_from p k c ++ more)) p).position c
unfolding nodes_from Follows
follows_in none xs more k p at less tree = tt
follows_in (played m next others) xs more k p at less tree =
    let x = node_of p m in
    let one = xs ++ x ∷ [] in
    let a = nodes_from k (k + 1) next in
    let b = nodes_from p (k + 1 + size next) others in
    let nodes = xs ++ (x ∷ ((a ++ b) ++ more)) in
    let len = length-append xs (x ∷ []) in
    let len_a = length_nodes k (k + 1) next in
    let len_two = length-append one a in
    let len_all = length-append xs (x ∷ ((a ++ b) ++ more)) in
    let once : nodes ≡ one ++ (a ++ (b ++ more)) = ap (λ l. xs ++ (x ∷ l)) (append_assoc a b more) ∙ sym (append_assoc xs (x ∷ []) (a ++ (b ++ more))) in
    let twice : nodes ≡ (one ++ a) ++ (b ++ more) = once ∙ sym (append_assoc one a (b ++ more)) in
    let here : node_at nodes k ≡ x = ap (node_at nodes) at ∙ get_or-append_seam xs x ((a ++ b) ++ more) no_node in
    let child = tree.children k (omega (arith, less)) (omega (arith, len_all, at)) in
    let number : child.number ≡ p = some_is child.number p (sym child.parent ∙ ap (λ n. n.parent) here) in
    let move : child.move ≡ m.move = moves_are child.move m.move (sym child.led_by ∙ ap (λ n. n.led_by) here) in
    let leads : Leads (node_at nodes p).position m.move m.position =
    subst (λ i. Leads (node_at nodes i).position m.move m.position) number
    (subst (λ s. Leads (node_at nodes child.number).position s m.position) move
    (subst (λ n. Leads (node_at nodes child.number).position child.move n.position) here child.leads)) in
    let inner : Follows m.position next =
    subst (λ n. Follows n.position next) here
    (subst (λ l. Follows (node_at l k).position next) (sym once) (follows_in next one (b ++ more) (k + 1) k (omega (arith, len, at)) (omega arith) (subst IsTree once tree))) in
    let outer : Follows (node_at nodes p).position others =
    subst (λ l. Follows (node_at l p).position others) (sym twice)
    (follows_in others (one ++ a) more (k + 1 + size next) p (omega (arith, len, len_a, len_two, at)) (omega (arith, less)) (subst IsTree twice tree)) in
    (leads, inner, outer)
  where
    some_is : (i j : ℕ) → Some i ≡ Some j → i ≡ j
    some_is i j e = cc

    moves_are : (i j : Move) → Some i ≡ Some j → i ≡ j
    moves_are i j e = cc

-- in a tree each move leads from the position before it to its own
pub follows_of : (root : Node) (c : Continuations) → IsTree (root ∷ nodes_from 0 1 c) → Follows root.position c
follows_of root c tree = follows_in c (root ∷ []) [] 1 0 refl (omega arith) (subst (λ l. IsTree (root ∷ l)) (sym (append-nil (nodes_from 0 1 c))) tree)
