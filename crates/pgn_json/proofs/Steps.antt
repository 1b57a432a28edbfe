-- The move to a node leads there, and each node has a position.
use Rattle.std.proofs.Common.{ℕ, zero, suc, ◌<◌, List, length, ap, sym, subst, arith, inl, inr}
use Rattle.std.proofs.lemmas.Bool.{cases_eq}
use Rattle.std.specs.Option.{unwrap_or}
use Rattle.cq_position.specs.Games.{Node, node_at, IsTree}
use Rattle.cq_position.specs.Legal.{Leads}
use Rattle.cq_position.specs.Moves.{null_move}
use Rattle.cq_position.specs.Board.{Board}
use Rattle.cq_position.specs.Position.{IsPosition}
use Rattle.cq_position.specs.declared.moves.Move.{Move}
use Rattle.cq_moves.proofs.Kept.{legal_is_position, after_pass_is_position}
use Rattle.pgn_json.specs.Json.{move_of, parent_of}

pub led_to : (nodes : List Node) (k : ℕ) → IsTree nodes → 0 < k → k < length nodes
    → Leads (node_at nodes (parent_of (node_at nodes k))).position (move_of (node_at nodes k)) (node_at nodes k).position
led_to nodes k tree some_ low =
    let child = tree.children k some_ low in
    let here = (node_at nodes k).position in
    subst (λ p. Leads (node_at nodes p).position (move_of (node_at nodes k)) here) (sym (ap (λ o. unwrap_or o 0) child.parent))
    (subst (λ m. Leads (node_at nodes child.number).position m here) (sym (ap (λ o. unwrap_or o null_move) child.led_by)) child.leads)

pub parent_low : (nodes : List Node) (k : ℕ) → IsTree nodes → 0 < k → k < length nodes → parent_of (node_at nodes k) < length nodes
parent_low nodes k tree some_ low =
    let child = tree.children k some_ low in
    omega (arith, child.after, low, ap (λ o. unwrap_or o 0) child.parent)

stays_position : (p : Board) (m : Move) (q : Board) → IsPosition p → Leads p m q → IsPosition q
stays_position p m q kept (inl legal) = legal_is_position p m q kept legal
stays_position p m q kept (inr pass) = subst IsPosition (sym pass.leads) (after_pass_is_position p kept pass.safe)

-- the first n nodes have positions
first_positions : (n : ℕ) (nodes : List Node) → IsTree nodes → IsPosition (node_at nodes 0).position → (k : ℕ) → k < n → k < length nodes
    → IsPosition (node_at nodes k).position
first_positions zero nodes tree start k less low = absurd (omega (arith, less))
first_positions (suc n) nodes tree start k less low = elim (cases_eq k 0) [
  | inl is ↦ subst (λ i. IsPosition (node_at nodes i).position) (sym is) start
  | inr some_ ↦
      let child = tree.children k (omega (arith, some_)) low in
      let before = first_positions n nodes tree start child.number (omega (arith, child.after, less)) (omega (arith, child.after, low)) in
      stays_position (node_at nodes child.number).position child.move (node_at nodes k).position before child.leads
]

pub has_position : (nodes : List Node) → IsTree nodes → IsPosition (node_at nodes 0).position → (k : ℕ) → k < length nodes
    → IsPosition (node_at nodes k).position
has_position nodes tree start k low = first_positions (length nodes) nodes tree start k low low
