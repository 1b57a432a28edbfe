-- A game grows by the rows of its line.
use Rattle.std.proofs.Common.{◌≡◌, ℕ, ◌+◌, ◌-◌, ◌<◌, List, [], ◌∷◌, ◌++◌, length, Some, refl, sym, ap, ◌∙◌, subst, arith, append_assoc, append-nil, length-append}
use Rattle.std.specs.Prelude.{slice_index, Contains}
use Rattle.std.proofs.lemmas.List.{get_or_append_left}
use Rattle.std.proofs.Math.Seq.{get_or-append_seam}
use Rattle.cq_position.specs.declared.moves.Move.{Move}
use Rattle.cq_position.specs.Legal.{Leads}
use Rattle.cq_position.specs.Games.{Node, Game, no_node, node_at, way_up, IsTree}
use Rattle.cq_position.specs.Continuations.{Played, node_of}
use Rattle.cq_position.proofs.Trees.{prefix_tree, way_in_prefix}
use Rattle.pgn_reader.specs.Internal.Frame.{NodeRow}
use Rattle.pgn_reader.specs.Internal.GameAssembly.{path_down, nodes_by}
use Rattle.pgn_reader.specs.Internal.Building.{IsNext}

-- a node of a tree may be the next after those before it
pub is_next : (xs rest : List Node) (p : ℕ) (m : Played) → 0 < length xs → IsTree (xs ++ node_of p m ∷ rest) → IsNext xs p m
is_next xs rest p m rooted tree =
    let all : List Node = xs ++ node_of p m ∷ rest in
    let len : length all ≡ length xs + length (node_of p m ∷ rest) = length-append xs (node_of p m ∷ rest) in
    let child = tree.children (length xs) rooted (omega (arith, len)) in
    let here : node_at all (length xs) ≡ node_of p m = get_or-append_seam xs (node_of p m) rest no_node in
    let number : child.number ≡ p = some_is child.number p (sym child.parent ∙ ap (λ n. n.parent) here) in
    let move : child.move ≡ m.move = moves_are child.move m.move (sym child.led_by ∙ ap (λ n. n.led_by) here) in
    let low : p < length xs = omega (arith, number, child.after) in
    let leads : Leads (node_at all p).position m.move m.position =
    subst (λ i. Leads (node_at all i).position m.move m.position) number
    (subst (λ s. Leads (node_at all child.number).position s m.position) move
    (subst (λ n. Leads (node_at all child.number).position child.move n.position) here child.leads)) in
    record {
      node = low;
      preorder = subst (λ l. Contains l p) (sym (way_in_prefix xs (node_of p m ∷ rest) (length xs - 1) (prefix_tree xs (node_of p m ∷ rest) rooted tree) (omega (arith, rooted))))
          (subst (λ i. Contains (way_up all (length xs - 1)) i) number child.preorder);
      leads = subst (λ n. Leads n.position m.move m.position) (get_or_append_left xs (node_of p m ∷ rest) no_node p low) leads;
      few = omega (arith, len, tree.few);
    }
  where
    some_is : (i j : ℕ) → Some i ≡ Some j → i ≡ j
    some_is i j e = cc

    moves_are : (i j : Move) → Some i ≡ Some j → i ≡ j
    moves_are i j e = cc

-- The game so far, the way down to its last node, and the rows that are left, which give the nodes that are missing.
pub record IsBuilt (g h : Game) (way : List ℕ) (left : List NodeRow) (all : List Node) : Type 0 where
  pub rooted : 0 < length h.nodes
  pub same : record h { nodes = all } ≡ record g { nodes = all }
  pub nodes : h.nodes ++ nodes_by way (length h.nodes) left ≡ all

pub built_first : (g : Game) (rows : List NodeRow) → length g.nodes ≡ 1 → IsBuilt g g (0 ∷ []) rows (g.nodes ++ nodes_by (0 ∷ []) 1 rows)
built_first g rows one = record {
  rooted = omega (arith, one);
  same = refl;
  nodes = ap (λ k. g.nodes ++ nodes_by (0 ∷ []) k rows) one;
}

-- a row and those after it
left_is : (h : Game) (way : List ℕ) (r : NodeRow) (rows : List NodeRow)
    → h.nodes ++ nodes_by way (length h.nodes) (r ∷ rows)
    ≡ h.nodes ++ node_of (slice_index way r.level) r.move ∷ nodes_by (path_down way r.level (length h.nodes)) (length h.nodes + 1) rows
unfolding nodes_by
left_is h way r rows = refl

pub next_row : (g h : Game) (way : List ℕ) (left : List NodeRow) (r : NodeRow) (rows : List NodeRow) (all : List Node) → left ≡ r ∷ rows → IsTree all → IsBuilt g h way left all
    → IsNext h.nodes (slice_index way r.level) r.move
next_row g h way left r rows all left_are tree built =
    is_next h.nodes (nodes_by (path_down way r.level (length h.nodes)) (length h.nodes + 1) rows) (slice_index way r.level) r.move built.rooted
    (subst IsTree (sym built.nodes ∙ ap (λ l. h.nodes ++ nodes_by way (length h.nodes) l) left_are ∙ left_is h way r rows) tree)

pub built_on : (g h j : Game) (way on : List ℕ) (left : List NodeRow) (r : NodeRow) (rows : List NodeRow) (all : List Node) → left ≡ r ∷ rows → IsBuilt g h way left all
    → j ≡ record h { nodes = h.nodes ++ node_of (slice_index way r.level) r.move ∷ [] }
    → on ≡ path_down way r.level (length h.nodes) → IsBuilt g j on rows all
built_on g h j way on left r rows all left_are built node step =
    let x : Node = node_of (slice_index way r.level) r.move in
    let nodes : j.nodes ≡ h.nodes ++ x ∷ [] = ap (λ z. z.nodes) node in
    let len : length j.nodes ≡ length h.nodes + 1 = ap length nodes ∙ length-append h.nodes (x ∷ []) in
    record {
      rooted = omega (arith, len);
      same = ap {A = Game} {B = Game} (λ z. record z { nodes = all }) node ∙ built.same;
      nodes =
          ap (λ k. j.nodes ++ nodes_by on k rows) len
          ∙ ap (λ w. j.nodes ++ nodes_by w (length h.nodes + 1) rows) step
          ∙ ap (λ n. n ++ nodes_by (path_down way r.level (length h.nodes)) (length h.nodes + 1) rows) nodes
          ∙ append_assoc h.nodes (x ∷ []) (nodes_by (path_down way r.level (length h.nodes)) (length h.nodes + 1) rows)
          ∙ sym (left_is h way r rows)
          ∙ ap (λ l. h.nodes ++ nodes_by way (length h.nodes) l) (sym left_are)
          ∙ built.nodes;
    }

none_left : (h : Game) (way : List ℕ) → h.nodes ++ nodes_by way (length h.nodes) [] ≡ h.nodes
unfolding nodes_by
none_left h way = append-nil h.nodes

pub built_whole : (g h : Game) (way : List ℕ) (left : List NodeRow) (all : List Node) → left ≡ [] → IsBuilt g h way left all → h ≡ record g { nodes = all }
built_whole g h way left all none built =
    ap (λ n. record h { nodes = n }) (sym (none_left h way) ∙ ap (λ l. h.nodes ++ nodes_by way (length h.nodes) l) (sym none) ∙ built.nodes) ∙ built.same
