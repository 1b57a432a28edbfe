-- A tree keeps its links when numeric annotation glyphs and comments change.
use Rattle.std.proofs.Common.{◌≡◌, ℕ, ◌<◌, ⊎_elim, List, length, get_or, Option, Some, None, refl, sym, ap, ap₂, ◌∙◌, subst, arith}
use Rattle.std.specs.Prelude.{slice_set, ◌||◌, ◌==◌, ◌&&◌, nat_lt}
use Rattle.std.specs.List.{find, list_all, range_with_len}
use Rattle.std.proofs.lemmas.List.{get_or-set_same, get_or-set_other}
use Rattle.std.proofs.Math.ListN.{length-set}
use Rattle.cq_position.specs.Games.{Node, node_at, is_number, is_child_of, first_child, is_later_sibling, next_sibling, is_first_child_of, is_main, with_node, IsSamePlace}
use Rattle.cq_position.proofs.Ancestors.{way_same}
use Rattle.cq_position.proofs.Trees.{same_tree, same_place, tree_first}
use Rattle.pgn_tree.specs.Links.{LinkedNode, linked_at, nodes_of, IsSameLinked, IsLastChild, IsLinkedTree}
use Rattle.pgn_tree.proofs.Linking.{nodes_of_set, length_nodes_of, node_of, same_or_not}
use Rattle.pgn_tree.proofs.MainLine.{in_line}
use Rattle.pgn_tree.proofs.LinkedNode.{read_at}

module _ (a b : List LinkedNode) (len : length a ≡ length b) (same : (m : ℕ) → IsSameLinked (linked_at a m) (linked_at b m)) (kept : IsLinkedTree a) where
  counts : length (nodes_of a) ≡ length (nodes_of b)
  counts = length_nodes_of a ∙ len ∙ sym (length_nodes_of b)

  place : (m : ℕ) → IsSamePlace (node_at (nodes_of a) m) (node_at (nodes_of b) m)
  place m = subst (λ x. IsSamePlace x (node_at (nodes_of b) m)) (sym (node_of a m)) (subst (IsSamePlace (linked_at a m).node) (sym (node_of b m)) (same m).place)

  child_same : (n : ℕ) → is_child_of (nodes_of a) n ≡ is_child_of (nodes_of b) n
  child_same n = λ j k. is_number ((place k).parent j) n

  first_same : (n : ℕ) → first_child (nodes_of a) n ≡ first_child (nodes_of b) n
  unfolding first_child
  first_same n = ap₂ (λ f k. find f (range_with_len 0 k)) (child_same n) counts

  later_same : (o : Option ℕ) (n : ℕ) → is_later_sibling (nodes_of a) o n ≡ is_later_sibling (nodes_of b) o n
  later_same None n = refl
  later_same (Some p) n = λ j k. nat_lt n k && child_same p j k

  next_same : (n : ℕ) → next_sibling (nodes_of a) n ≡ next_sibling (nodes_of b) n
  unfolding next_sibling
  next_same n =
      ap₂ (λ f k. find f (range_with_len 0 k)) (later_same (node_at (nodes_of a) n).parent n) counts
      ∙ ap (λ o. find (is_later_sibling (nodes_of b) o n) (range_with_len 0 (length (nodes_of b)))) (place n).parent

  first_of_same : (o : Option ℕ) (m : ℕ) → is_first_child_of (nodes_of a) o m ≡ is_first_child_of (nodes_of b) o m
  first_of_same None m = refl
  first_of_same (Some p) m = ap (λ f. is_number f m) (first_same p)

  line_same : in_line (nodes_of a) ≡ in_line (nodes_of b)
  line_same = λ j m. (m == 0) || ((first_of_same (node_at (nodes_of a) m).parent m ∙ ap (λ o. is_first_child_of (nodes_of b) o m) (place m).parent) j)

  main_same : (n : ℕ) → is_main (nodes_of a) n ≡ is_main (nodes_of b) n
  main_same n = ap₂ list_all line_same (way_same (nodes_of a) (nodes_of b) (tree_first (nodes_of a) kept.tree) n (record { same = λ m less. (place m).parent }))

  pub kept_same : IsLinkedTree b
  kept_same = record {
    tree = same_tree (nodes_of a) (nodes_of b) (let h = kept.tree.rooted in let c = counts in omega (arith, h, c))
        (let c = counts in omega (arith, c)) (record { place = λ m less. place m }) kept.tree;
    links = record {
      first_child = λ n h. sym (same n).first_child ∙ kept.links.first_child n (omega (arith, h, len)) ∙ first_same n;
      last_child = λ n h. (let last = kept.links.last_child n (omega (arith, h, len)) in subst (IsLastChild (nodes_of b) n) (same n).last_child
          (record { child = λ k is. sym (λ j. child_same n j k) ∙ last.child k is; after = λ k is. last.after k ((λ j. child_same n j k) ∙ is) }));
      next_sibling = λ n h. sym (same n).next_sibling ∙ kept.links.next_sibling n (omega (arith, h, len)) ∙ next_same n;
      main = λ n h. sym (same n).main ∙ kept.links.main n (omega (arith, h, len)) ∙ main_same n;
    };
  }

same_linked : (x y : LinkedNode) → x ≡ y → IsSameLinked x y
same_linked x y is = record {
  place = same_place x.node y.node (ap (λ z. z.node) is);
  first_child = ap (λ z. z.first_child) is;
  last_child = ap (λ z. z.last_child) is;
  next_sibling = ap (λ z. z.next_sibling) is;
  main = ap (λ z. z.main) is;
}

-- one node that changes so
pub kept_set : (items : List LinkedNode) (k : ℕ) (old new : LinkedNode) → k < length items → old ≡ get_or items k old → IsSameLinked old new → IsLinkedTree items → IsLinkedTree (slice_set items k new)
kept_set items k old new h old_is same kept =
    kept_same items (slice_set items k new) (sym (length-set items k new))
    (λ m. ⊎_elim
    (λ at. subst (λ i. IsSameLinked (linked_at items i) (linked_at (slice_set items k new) i)) (sym at)
    (subst (IsSameLinked (linked_at items k)) (sym (get_or-set_same items k new _ h)) (subst (λ y. IsSameLinked y new) (read_at items k old h old_is) same)))
    (λ differ. same_linked (linked_at items m) (linked_at (slice_set items k new) m) (sym (get_or-set_other items k m new _ differ)))
    (same_or_not m k))
    kept

pub within_items : (items : List LinkedNode) (k : ℕ) → {nodes : List Node} → nodes_of items ≡ nodes → k < length nodes → k < length items
within_items items k same h = let len = length_nodes_of items in let counts = ap length same in omega (arith, h, len, counts)

-- the nodes after a change of one
pub nodes_set : (items : List LinkedNode) (k : ℕ) (old new : LinkedNode) (change : Node → Node) → {nodes : List Node} → nodes_of items ≡ nodes
    → k < length nodes → old ≡ get_or items k old → new.node ≡ change old.node
    → nodes_of (slice_set items k new) ≡ with_node nodes k change
nodes_set items k old new change same h old_is new_is =
    let here = read_at items k old (within_items items k same h) old_is in
    nodes_of_set items k new
    ∙ ap₂ (λ l x. slice_set l k x) same
    (new_is ∙ ap change (ap (λ y. y.node) here ∙ sym (node_of items k) ∙ ap (λ l. node_at l k) same))
