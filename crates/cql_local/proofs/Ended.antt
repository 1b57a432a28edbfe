-- The squares of the move to a node, and the parts of the filter that agree with them.
use Rattle.std.proofs.Common.{◌≡◌, ℕ, true, false, List, Some, None, refl, ap, ap₂, ◌∙◌}
use Rattle.std.specs.Prelude.{if◌then◌else◌, not}
use Rattle.cq_position.specs.Games.{Node, node_at}
use Rattle.cq_position.specs.Led.{led, led_from, led_to, taken_square}
use Rattle.cq_position.specs.Legal.{is_none}
use Rattle.cq_position.specs.declared.moves.Move.{Move}
use Rattle.cql_local.specs.Internal.MovesSought.{AreMoveEnds}

pub no_ends : (nodes : List Node) (n p : ℕ) (m : Move) → (node_at nodes n).parent ≡ Some p → (node_at nodes n).led_by ≡ Some m → m.null ≡ true → led_to nodes n ≡ None
unfolding led
no_ends nodes n p m parent by null =
    let q = (node_at nodes p).position in
    ap₂ (led_from nodes) by parent
    ∙ ap (λ b. if b then None else Some (record { origin = m.from; goal = m.to; taken = taken_square q m; promoted = not (is_none m.promotion) })) null

pub ends : (nodes : List Node) (n p : ℕ) (m : Move) → (node_at nodes n).parent ≡ Some p → (node_at nodes n).led_by ≡ Some m → m.null ≡ false
    → AreMoveEnds nodes n (record { before = p; origin = m.from; goal = m.to })
unfolding led
ends nodes n p m parent by null =
    let q = (node_at nodes p).position in
    record {
      led = record { origin = m.from; goal = m.to; taken = taken_square q m; promoted = not (is_none m.promotion) };
      is = ap₂ (led_from nodes) by parent
          ∙ ap (λ b. if b then None else Some (record { origin = m.from; goal = m.to; taken = taken_square q m; promoted = not (is_none m.promotion) })) null;
      origin = refl;
      goal = refl;
      before = parent;
    }
