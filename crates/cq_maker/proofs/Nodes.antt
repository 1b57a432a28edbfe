-- Rows are added to the nodes of a game.
use Rattle.std.proofs.Common.{◌≡◌, ℕ, ◌+◌, ◌-◌, ◌<◌, List, [], ◌∷◌, ◌++◌, length, take, drop, get_or, reverse, Some, refl, sym, ap, ◌∙◌, subst, arith, append_assoc, length-append}
use Rattle.std.specs.Prelude.{Contains}
use Rattle.std.proofs.lemmas.List.{map-append, reverse-append, take_more, drop_more, take-append-drop, get_or_append_left}
use Rattle.std.proofs.Math.Seq.{get_or-append_seam}
use Rattle.cq_position.specs.declared.moves.Move.{Move}
use Rattle.cq_position.specs.Legal.{Leads}
use Rattle.cq_position.specs.Games.{Node, no_node, node_at, way_up, IsTree}
use Rattle.cq_position.proofs.Trees.{prefix_tree, way_in_prefix}
use Rattle.cq_maker.specs.declared.drawn_move.DrawnMove.{DrawnMove}
use Rattle.cq_maker.specs.Internal.DrawnMoves.{node_of_row, nodes_of_rows}

-- a row may be added after some nodes
pub record MayFollow (nodes : List Node) (r : DrawnMove) : Type 0 where
  pub node : r.parent < length nodes
  pub preorder : Contains (way_up nodes (length nodes - 1)) r.parent
  pub leads : Leads (node_at nodes r.parent).position r.led_by r.position
  pub few : length nodes < 65536

some_is : (i j : ℕ) → Some i ≡ Some j → i ≡ j
some_is i j e = cc

moves_are : (i j : Move) → Some i ≡ Some j → i ≡ j
moves_are i j e = cc

pub may_follow : (xs rest : List Node) (r : DrawnMove) → 0 < length xs → IsTree (xs ++ node_of_row r ∷ rest) → MayFollow xs r
may_follow xs rest r rooted tree =
    let x = node_of_row r in
    let all : List Node = xs ++ x ∷ rest in
    let len : length all ≡ length xs + length (x ∷ rest) = length-append xs (x ∷ rest) in
    let child = tree.children (length xs) rooted (omega (arith, len)) in
    let here : node_at all (length xs) ≡ x = get_or-append_seam xs x rest no_node in
    let number : child.number ≡ r.parent = some_is child.number r.parent (sym child.parent ∙ ap (λ n. n.parent) here) in
    let move : child.move ≡ r.led_by = moves_are child.move r.led_by (sym child.led_by ∙ ap (λ n. n.led_by) here) in
    let low : r.parent < length xs = omega (arith, number, child.after) in
    let leads : Leads (node_at all r.parent).position r.led_by r.position =
    subst (λ i. Leads (node_at all i).position r.led_by r.position) number
    (subst (λ s. Leads (node_at all child.number).position s r.position) move
    (subst (λ n. Leads (node_at all child.number).position child.move n.position) here child.leads)) in
    record {
      node = low;
      preorder = subst (λ l. Contains l r.parent) (sym (way_in_prefix xs (x ∷ rest) (length xs - 1) (prefix_tree xs (x ∷ rest) rooted tree) (omega (arith, rooted))))
          (subst (λ i. Contains (way_up all (length xs - 1)) i) number child.preorder);
      leads = subst (λ n. Leads n.position r.led_by r.position) (get_or_append_left xs (x ∷ rest) no_node r.parent low) leads;
      few = omega (arith, len, tree.few);
    }

-- the nodes of the rows before one, its own, and those of the rows after it
pub rows_split : (rows : List DrawnMove) (i : ℕ) (d : DrawnMove) → i < length rows
    → nodes_of_rows rows ≡ nodes_of_rows (take i rows) ++ (node_of_row (get_or rows i d) ∷ nodes_of_rows (drop (i + 1) rows))
rows_split rows i d h =
    ap nodes_of_rows (sym (take-append-drop i rows))
    ∙ map-append node_of_row (take i rows) (drop i rows)
    ∙ ap (λ l. nodes_of_rows (take i rows) ++ nodes_of_rows l) (drop_more rows i d h)

pub next_row : (nodes : List Node) (rows : List DrawnMove) (i : ℕ) (d : DrawnMove) → 0 < length nodes → i < length rows → IsTree (nodes ++ nodes_of_rows rows)
    → MayFollow (nodes ++ nodes_of_rows (take i rows)) (get_or rows i d)
next_row nodes rows i d rooted h tree =
    let before = nodes_of_rows (take i rows) in
    let rest = nodes_of_rows (drop (i + 1) rows) in
    let len = length-append nodes before in
    may_follow (nodes ++ before) rest (get_or rows i d) (omega (arith, len, rooted))
    (subst IsTree (ap (λ l. nodes ++ l) (rows_split rows i d h) ∙ sym (append_assoc nodes before (node_of_row (get_or rows i d) ∷ rest))) tree)

pub more_rows : (nodes : List Node) (rows : List DrawnMove) (i : ℕ) (d : DrawnMove) → i < length rows
    → (nodes ++ nodes_of_rows (take i rows)) ++ node_of_row (get_or rows i d) ∷ [] ≡ nodes ++ nodes_of_rows (take (i + 1) rows)
more_rows nodes rows i d h =
    append_assoc nodes (nodes_of_rows (take i rows)) (node_of_row (get_or rows i d) ∷ [])
    ∙ ap (λ l. nodes ++ l) (sym (map-append node_of_row (take i rows) (get_or rows i d ∷ [])) ∙ ap nodes_of_rows (sym (take_more rows i d h)))

-- the nodes of rows in reverse
pub nodes_reversed : (rows : List DrawnMove) → nodes_of_rows (reverse rows) ≡ reverse (nodes_of_rows rows)
nodes_reversed [] = refl
nodes_reversed (r ∷ rs) =
    ap nodes_of_rows (reverse-append (r ∷ []) rs) ∙ map-append node_of_row (reverse rs) (r ∷ [])
    ∙ ap (λ l. l ++ node_of_row r ∷ []) (nodes_reversed rs) ∙ sym (reverse-append (node_of_row r ∷ []) (nodes_of_rows rs))

pub follow_now : (nodes now : List Node) (rows : List DrawnMove) (i : ℕ) (r : DrawnMove) → 0 < length nodes → i < length rows → IsTree (nodes ++ nodes_of_rows rows)
    → now ≡ nodes ++ nodes_of_rows (take i rows) → r ≡ get_or rows i r → MayFollow now r
follow_now nodes now rows i r rooted h tree is row =
    subst (λ l. MayFollow l r) (sym is) (subst (MayFollow (nodes ++ nodes_of_rows (take i rows))) (sym row) (next_row nodes rows i r rooted h tree))
