-- The links of a tree after one more node.
use Rattle.std.proofs.Common.{◌≡◌, ◌≢◌, ℕ, zero, suc, ◌<◌, ◌⊎◌, ⊎_elim, List, [], ◌∷◌, ◌++◌, length, get_or, Option, Some, None, refl, sym, ap, ◌∙◌, arith}
use Rattle.std.specs.Prelude.{slice_set}
use Rattle.std.proofs.lemmas.List.{get_or-set_same, get_or-set_other}
use Rattle.std.proofs.Math.ListN.{length-set}
use Rattle.cq_position.specs.Games.{no_node, node_at}
use Rattle.pgn_tree.specs.Links.{LinkedNode, linked_at, nodes_of, with_linked, with_first_child, with_last_child, with_next_sibling, with_link}

pub length_nodes_of : (items : List LinkedNode) → length (nodes_of items) ≡ length items
length_nodes_of [] = refl
length_nodes_of (x ∷ xs) = ap suc (length_nodes_of xs)

pub node_of : (items : List LinkedNode) (k : ℕ) → node_at (nodes_of items) k ≡ (linked_at items k).node
node_of [] k = refl
node_of (x ∷ xs) zero = refl
node_of (x ∷ xs) (suc k) = node_of xs k

pub nodes_of_set : (items : List LinkedNode) (k : ℕ) (x : LinkedNode) → nodes_of (slice_set items k x) ≡ slice_set (nodes_of items) k x.node
nodes_of_set [] k x = refl
nodes_of_set (y ∷ ys) zero x = refl
nodes_of_set (y ∷ ys) (suc k) x = ap (λ l. y.node ∷ l) (nodes_of_set ys k x)

pub nodes_of_push : (items : List LinkedNode) (x : LinkedNode) → nodes_of (items ++ x ∷ []) ≡ nodes_of items ++ x.node ∷ []
nodes_of_push [] x = refl
nodes_of_push (y ∷ ys) x = ap (λ l. y.node ∷ l) (nodes_of_push ys x)

pub set_same : {A : Type 0} → (l : List A) (i : ℕ) (d : A) → slice_set l i (get_or l i d) ≡ l
set_same [] i d = refl
set_same (x ∷ xs) zero d = refl
set_same (x ∷ xs) (suc i) d = ap (λ l. x ∷ l) (set_same xs i d)

-- a change of links leaves the nodes
nodes_stay : (items : List LinkedNode) (k : ℕ) (change : LinkedNode → LinkedNode) → ((y : LinkedNode) → (change y).node ≡ y.node) → nodes_of (with_linked items k change) ≡ nodes_of items
nodes_stay items k change same =
    nodes_of_set items k (change (linked_at items k))
    ∙ ap (slice_set (nodes_of items) k) (same (linked_at items k) ∙ sym (node_of items k))
    ∙ set_same (nodes_of items) k no_node

pub linked_nodes : (items : List LinkedNode) (o : Option ℕ) (parent k : ℕ) → nodes_of (with_linked (with_link items o parent k) parent (with_last_child k)) ≡ nodes_of items
linked_nodes items None parent k =
    nodes_stay (with_link items None parent k) parent (with_last_child k) (λ y. refl) ∙ nodes_stay items parent (with_first_child k) (λ y. refl)
linked_nodes items (Some l) parent k =
    nodes_stay (with_link items (Some l) parent k) parent (with_last_child k) (λ y. refl) ∙ nodes_stay items l (with_next_sibling k) (λ y. refl)

pub same_or_not : (k j : ℕ) → (k ≡ j) ⊎ (k ≢ j)
same_or_not k j = grind arith

-- at the place of a change, and elsewhere
changed : (items : List LinkedNode) (k : ℕ) (change : LinkedNode → LinkedNode) → k < length items → linked_at (with_linked items k change) k ≡ change (linked_at items k)
changed items k change h = get_or-set_same items k (change (linked_at items k)) _ h

unchanged : (items : List LinkedNode) (k m : ℕ) (change : LinkedNode → LinkedNode) → m ≢ k → linked_at (with_linked items k change) m ≡ linked_at items m
unchanged items k m change differ = get_or-set_other items k m (change (linked_at items k)) _ differ

-- a field that the change leaves
left : {X : Type 0} (field : LinkedNode → X) (items : List LinkedNode) (k m : ℕ) (change : LinkedNode → LinkedNode) → ((y : LinkedNode) → field (change y) ≡ field y) → k < length items
    → field (linked_at (with_linked items k change) m) ≡ field (linked_at items m)
left field items k m change same h = ⊎_elim
    (λ at. ap (λ i. field (linked_at (with_linked items k change) i)) at ∙ ap field (changed items k change h) ∙ same (linked_at items k) ∙ ap (λ i. field (linked_at items i)) (sym at))
    (λ differ. ap field (unchanged items k m change differ))
    (same_or_not m k)

length_with : (items : List LinkedNode) (k : ℕ) (change : LinkedNode → LinkedNode) → length (with_linked items k change) ≡ length items
length_with items k change = length-set items k (change (linked_at items k))

length_link : (items : List LinkedNode) (o : Option ℕ) (parent k : ℕ) → length (with_link items o parent k) ≡ length items
length_link items None parent k = length_with items parent (with_first_child k)
length_link items (Some l) parent k = length_with items l (with_next_sibling k)

module _ (items : List LinkedNode) (parent k : ℕ) (h : parent < length items) where
  unfoldable pub after : Option ℕ → List LinkedNode
  after o = with_linked (with_link items o parent k) parent (with_last_child k)

  in_link : (o : Option ℕ) → parent < length (with_link items o parent k)
  in_link o = let len = length_link items o parent k in omega (arith, len, h)

  pub length_after : (o : Option ℕ) → length (with_linked (with_link items o parent k) parent (with_last_child k)) ≡ length items
  length_after o = length_with (with_link items o parent k) parent (with_last_child k) ∙ length_link items o parent k

  pub first_kept : (l m : ℕ) → l < length items → (linked_at (after (Some l)) m).first_child ≡ (linked_at items m).first_child
  unfolding after
  first_kept l m within =
      left (λ y. y.first_child) (with_link items (Some l) parent k) parent m (with_last_child k) (λ y. refl) (in_link (Some l))
      ∙ left (λ y. y.first_child) items l m (with_next_sibling k) (λ y. refl) within

  pub first_set : (linked_at (after None) parent).first_child ≡ Some k
  unfolding after
  first_set =
      left (λ y. y.first_child) (with_link items None parent k) parent parent (with_last_child k) (λ y. refl) (in_link None)
      ∙ ap (λ y. y.first_child) (changed items parent (with_first_child k) h)

  pub first_other : (m : ℕ) → m ≢ parent → (linked_at (after None) m).first_child ≡ (linked_at items m).first_child
  unfolding after
  first_other m differ =
      left (λ y. y.first_child) (with_link items None parent k) parent m (with_last_child k) (λ y. refl) (in_link None)
      ∙ ap (λ y. y.first_child) (unchanged items parent m (with_first_child k) differ)

  pub next_kept : (m : ℕ) → (linked_at (after None) m).next_sibling ≡ (linked_at items m).next_sibling
  unfolding after
  next_kept m =
      left (λ y. y.next_sibling) (with_link items None parent k) parent m (with_last_child k) (λ y. refl) (in_link None)
      ∙ left (λ y. y.next_sibling) items parent m (with_first_child k) (λ y. refl) h

  pub next_set : (l : ℕ) → l < length items → (linked_at (after (Some l)) l).next_sibling ≡ Some k
  unfolding after
  next_set l within =
      left (λ y. y.next_sibling) (with_link items (Some l) parent k) parent l (with_last_child k) (λ y. refl) (in_link (Some l))
      ∙ ap (λ y. y.next_sibling) (changed items l (with_next_sibling k) within)

  pub next_other : (l m : ℕ) → m ≢ l → (linked_at (after (Some l)) m).next_sibling ≡ (linked_at items m).next_sibling
  unfolding after
  next_other l m differ =
      left (λ y. y.next_sibling) (with_link items (Some l) parent k) parent m (with_last_child k) (λ y. refl) (in_link (Some l))
      ∙ ap (λ y. y.next_sibling) (unchanged items l m (with_next_sibling k) differ)

  pub last_set : (o : Option ℕ) → (linked_at (after o) parent).last_child ≡ Some k
  unfolding after
  last_set o = ap (λ y. y.last_child) (changed (with_link items o parent k) parent (with_last_child k) (in_link o))

  link_last : (o : Option ℕ) (m : ℕ) → ((l : ℕ) → o ≡ Some l → l < length items) → (linked_at (with_link items o parent k) m).last_child ≡ (linked_at items m).last_child
  link_last None m within = left (λ y. y.last_child) items parent m (with_first_child k) (λ y. refl) h
  link_last (Some l) m within = left (λ y. y.last_child) items l m (with_next_sibling k) (λ y. refl) (within l refl)

  pub last_other : (o : Option ℕ) (m : ℕ) → ((l : ℕ) → o ≡ Some l → l < length items) → m ≢ parent → (linked_at (after o) m).last_child ≡ (linked_at items m).last_child
  unfolding after
  last_other o m within differ = ap (λ y. y.last_child) (unchanged (with_link items o parent k) parent m (with_last_child k) differ) ∙ link_last o m within

  pub main_kept : (o : Option ℕ) (m : ℕ) → ((l : ℕ) → o ≡ Some l → l < length items) → (linked_at (after o) m).main ≡ (linked_at items m).main
  unfolding after
  main_kept None m within =
      left (λ y. y.main) (with_link items None parent k) parent m (with_last_child k) (λ y. refl) (in_link None)
      ∙ left (λ y. y.main) items parent m (with_first_child k) (λ y. refl) h
  main_kept (Some l) m within =
      left (λ y. y.main) (with_link items (Some l) parent k) parent m (with_last_child k) (λ y. refl) (in_link (Some l))
      ∙ left (λ y. y.main) items l m (with_next_sibling k) (λ y. refl) (within l refl)
