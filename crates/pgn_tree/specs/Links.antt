-- The links of the nodes of a game, by which every step from a node takes constant time.
use Rattle.std.specs.Prelude.{◌≡◌, ℕ, ◌<◌, ◌≤◌, Bool, true, false, List, [], ◌∷◌, ◌++◌, length, map, slice_set, slice_index_or, Option, Some, None}
use Rattle.cq_position.specs.Games.{Node, no_node, IsSamePlace, IsTree, HaveNotes, is_child_of, first_child, next_sibling, is_main}

-- a node with its first and its last child and its next sibling; `main` is true if it is of the main line
pub record LinkedNode : Type 0 where
  pub node : Node
  pub first_child : Option ℕ
  pub last_child : Option ℕ
  pub next_sibling : Option ℕ
  pub main : Bool

-- a node without children and siblings
abbrev pub unlinked : Node → Bool → LinkedNode
unlinked node main = record { node = node; first_child = None; last_child = None; next_sibling = None; main = main }

abbrev pub linked_at : List LinkedNode → ℕ → LinkedNode
linked_at items n = slice_index_or items n (unlinked no_node false)

abbrev pub nodes_of : List LinkedNode → List Node
nodes_of items = map (λ x. x.node) items

-- the same except for numeric annotation glyphs and comments
pub record IsSameLinked (a b : LinkedNode) : Type 0 where
  pub place : IsSamePlace a.node b.node
  pub first_child : a.first_child ≡ b.first_child
  pub last_child : a.last_child ≡ b.last_child
  pub next_sibling : a.next_sibling ≡ b.next_sibling
  pub main : a.main ≡ b.main

-- the last of the children of a node, if it has any
pub record IsLastChild (nodes : List Node) (n : ℕ) (last : Option ℕ) : Type 0 where
  pub child : (k : ℕ) → last ≡ Some k → is_child_of nodes n k ≡ true
  pub after : (k : ℕ) → is_child_of nodes n k ≡ true → (l : ℕ) × (last ≡ Some l) × (k ≤ l)

-- the links are those of the nodes
pub record AreLinks (items : List LinkedNode) : Type 0 where
  pub first_child : (n : ℕ) → n < length items → (linked_at items n).first_child ≡ first_child (nodes_of items) n
  pub last_child : (n : ℕ) → n < length items → IsLastChild (nodes_of items) n (linked_at items n).last_child
  pub next_sibling : (n : ℕ) → n < length items → (linked_at items n).next_sibling ≡ next_sibling (nodes_of items) n
  pub main : (n : ℕ) → n < length items → (linked_at items n).main ≡ is_main (nodes_of items) n

-- the nodes are a tree, and the links are theirs
pub record IsLinkedTree (items : List LinkedNode) : Type 0 where
  pub tree : IsTree (nodes_of items)
  pub links : AreLinks items

-- a linked tree, whose nodes have the notes of a game
pub record HasKeptAnnotations (items : List LinkedNode) : Type 0 where
  pub linked : IsLinkedTree items
  pub notes : HaveNotes (nodes_of items)

-- the nodes with one of them changed
abbrev pub with_linked : List LinkedNode → ℕ → (LinkedNode → LinkedNode) → List LinkedNode
with_linked items n change = slice_set items n (change (linked_at items n))

abbrev pub with_first_child : ℕ → LinkedNode → LinkedNode
with_first_child k x = record x { first_child = Some k }

abbrev pub with_last_child : ℕ → LinkedNode → LinkedNode
with_last_child k x = record x { last_child = Some k }

abbrev pub with_next_sibling : ℕ → LinkedNode → LinkedNode
with_next_sibling k x = record x { next_sibling = Some k }

-- a new last node, number k, is the next sibling of the last child before it, or else the first child of its parent
abbrev pub with_link : List LinkedNode → Option ℕ → (parent k : ℕ) → List LinkedNode
with_link items None parent k = with_linked items parent (with_first_child k)
with_link items (Some last) parent k = with_linked items last (with_next_sibling k)

abbrev pub linked : List LinkedNode → (parent k : ℕ) → List LinkedNode
linked items parent k = with_linked (with_link items (linked_at items parent).last_child parent k) parent (with_last_child k)
