-- The rows of a line, drawn one after another.
use Rattle.std.proofs.Common.{◌≡◌, ℕ, ◌+◌, ◌-◌, ◌<◌, ◌≤◌, Bool, true, false, List, [], ◌∷◌, ◌++◌, reverse, refl, sym, ap, ap₂, ◌∙◌, arith, append_assoc, append-nil}
use Rattle.std.specs.Prelude.{if◌then◌else◌}
use Rattle.std.proofs.lemmas.List.{map-append, reverse-append}
use Rattle.cq_position.specs.Board.{Board, start_board}
use Rattle.cq_position.specs.Continuations.{Played, Continuations, none, played, size, node_of, nodes_from}
use Rattle.cq_position.specs.Games.{Node}
use Rattle.cq_position.specs.Legal.{after}
use Rattle.cq_maker.specs.Draws.{next}
use Rattle.cq_maker.specs.Line.{is_over, move_drawn, ply_drawn, has_variation, variation_drawn, after_variation, Line, extended, line}
use Rattle.cq_maker.specs.Internal.DrawnMoves.{node_of_row, nodes_of_rows}
use Rattle.cq_maker.specs.declared.drawn_move.DrawnMove.{DrawnMove}
use Rattle.cq_maker.proofs.Drawn.{ended, line_over, line_full, line_step, ply_position}
use Rattle.cq_maker.proofs.Nodes.{nodes_reversed}

-- a variation that is there, and one that isn't, wherever it is numbered from
pub varied : (parent k : ℕ) (p : Board) (x : ℕ) → has_variation x ≡ true → nodes_from parent k (variation_drawn p x) ≡ node_of parent (ply_drawn p (next x)) ∷ []
unfolding variation_drawn nodes_from
varied parent k p x is = ap (λ b. nodes_from parent k (if b then played (ply_drawn p (next x)) none none else none)) is

pub not_varied : (parent k : ℕ) (p : Board) (x : ℕ) → has_variation x ≡ false → nodes_from parent k (variation_drawn p x) ≡ []
unfolding variation_drawn nodes_from
not_varied parent k p x is = ap (λ b. nodes_from parent k (if b then played (ply_drawn p (next x)) none none else none)) is

-- a variation of one move at most is the same in reverse
turned : (parent j k : ℕ) (p : Board) (x : ℕ) (b : Bool) → has_variation x ≡ b
    → reverse (nodes_from parent j (variation_drawn p x)) ≡ nodes_from parent k (variation_drawn p x)
turned parent j k p x true is = ap reverse (varied parent j p x is) ∙ sym (varied parent k p x is)
turned parent j k p x false is = ap reverse (not_varied parent j p x is) ∙ sym (not_varied parent k p x is)

-- the line that was drawn so far, and what is left of it
pub record IsDrawn (start most parent : ℕ) (last : Board) (main beside : List DrawnMove) (state : ℕ) : Type 0 where
  pub few : parent ≤ most
  pub nodes : nodes_of_rows main ++ (nodes_from parent (parent + 1) (line (most - parent) last state).moves ++ nodes_of_rows (reverse beside))
      ≡ nodes_from 0 1 (line most start_board start).moves
  pub last_is : (line (most - parent) last state).last ≡ (line most start_board start).last
  pub state_is : (line (most - parent) last state).state ≡ (line most start_board start).state

-- the nodes of a line by its first move
nodes_step : (parent : ℕ) (m : Played) (rest others : Continuations) (more : List Node)
    → nodes_from parent (parent + 1) (played m rest others) ++ more
    ≡ node_of parent m ∷ (nodes_from (parent + 1) (parent + 1 + 1) rest ++ (nodes_from parent (parent + 1 + 1 + size rest) others ++ more))
unfolding nodes_from
nodes_step parent m rest others more =
    ap (λ l. node_of parent m ∷ l) (append_assoc (nodes_from (parent + 1) (parent + 1 + 1) rest) (nodes_from parent (parent + 1 + 1 + size rest) others) more)

pub rows_pushed : (old new : List DrawnMove) (r : DrawnMove) (nodes : List Node) → new ≡ old ++ r ∷ [] → (node_of_row r ∷ []) ≡ nodes → nodes_of_rows new ≡ nodes_of_rows old ++ nodes
rows_pushed old new r nodes is same = ap nodes_of_rows is ∙ map-append node_of_row old (r ∷ []) ∙ ap (λ l. nodes_of_rows old ++ l) same

pub nothing_pushed : (rows : List DrawnMove) (nodes : List Node) → nodes ≡ [] → nodes_of_rows rows ≡ nodes_of_rows rows ++ nodes
nothing_pushed rows nodes is = sym (ap (λ l. nodes_of_rows rows ++ l) is ∙ append-nil (nodes_of_rows rows))

-- the variations after the rest of a line
beside_is : (parent k : ℕ) (p : Board) (x : ℕ) (old new : List DrawnMove) → nodes_of_rows new ≡ nodes_of_rows old ++ nodes_from parent 0 (variation_drawn p x)
    → nodes_of_rows (reverse new) ≡ nodes_from parent k (variation_drawn p x) ++ nodes_of_rows (reverse old)
beside_is parent k p x old new is =
    nodes_reversed new ∙ ap reverse is ∙ reverse-append (nodes_of_rows old) (nodes_from parent 0 (variation_drawn p x))
    ∙ ap₂ (λ a b. a ++ b) (turned parent 0 k p x (has_variation x) refl) (sym (nodes_reversed old))

pub drawn_more : (start most parent : ℕ) (last : Board) (main main_then beside beside_then : List DrawnMove) (state state_then : ℕ) (r : DrawnMove) → parent < most → is_over last ≡ false
    → main_then ≡ main ++ r ∷ [] → node_of_row r ≡ node_of parent (ply_drawn last state)
    → nodes_of_rows beside_then ≡ nodes_of_rows beside ++ nodes_from parent 0 (variation_drawn last (next state)) → state_then ≡ after_variation (next state)
    → IsDrawn start most parent last main beside state → IsDrawn start most (parent + 1) r.position main_then beside_then state_then
drawn_more start most parent last main main_then beside beside_then state state_then r less over main_is row_is beside_are state_is drawn =
    let k = most - (parent + 1) in
    let m = ply_drawn last state in
    let v = variation_drawn last (next state) in
    let rest : Line = line k (after last (move_drawn last state)) (after_variation (next state)) in
    let is_rest : line k r.position state_then ≡ rest = ap₂ (λ p x. line k p x) (ply_position parent last state (node_of_row r) row_is) state_is in
    let step : line (most - parent) last state ≡ extended m v rest = line_step (most - parent) k last state over (omega (arith, less)) in
    let inner : List Node = nodes_from (parent + 1) (parent + 1 + 1) rest.moves in
    let old : List Node = nodes_of_rows (reverse beside) in
    let tail : nodes_from (parent + 1) (parent + 1 + 1) (line k r.position state_then).moves ++ nodes_of_rows (reverse beside_then)
    ≡ inner ++ (nodes_from parent (parent + 1 + 1 + size rest.moves) v ++ old) =
    ap₂ (λ a b. a ++ b) (ap (λ l. nodes_from (parent + 1) (parent + 1 + 1) l.moves) is_rest) (beside_is parent (parent + 1 + 1 + size rest.moves) last (next state) beside beside_then beside_are) in
    record {
      few = omega (arith, less);
      nodes =
          ap₂ (λ a b. a ++ b) (rows_pushed main main_then r (node_of parent m ∷ []) main_is (ap (λ n. n ∷ []) row_is)) tail
          ∙ append_assoc (nodes_of_rows main) (node_of parent m ∷ []) (inner ++ (nodes_from parent (parent + 1 + 1 + size rest.moves) v ++ old))
          ∙ ap (λ l. nodes_of_rows main ++ l) (sym (nodes_step parent m rest.moves v old))
          ∙ ap (λ l. nodes_of_rows main ++ (nodes_from parent (parent + 1) l.moves ++ old)) (sym step)
          ∙ drawn.nodes;
      last_is = ap (λ l. l.last) is_rest ∙ sym (ap (λ l. l.last) step) ∙ drawn.last_is;
      state_is = ap (λ l. l.state) is_rest ∙ sym (ap (λ l. l.state) step) ∙ drawn.state_is;
    }

-- nothing is left of the line
pub record IsWhole (start most : ℕ) (last : Board) (main beside : List DrawnMove) (state : ℕ) : Type 0 where
  pub nodes : nodes_of_rows main ++ nodes_of_rows (reverse beside) ≡ nodes_from 0 1 (line most start_board start).moves
  pub last_is : last ≡ (line most start_board start).last
  pub state_is : state ≡ (line most start_board start).state

none_after : (parent k : ℕ) (l : Line) (p : Board) (x : ℕ) → l ≡ ended p x → nodes_from parent k l.moves ≡ []
unfolding nodes_from
none_after parent k l p x is = ap (λ m. nodes_from parent k m.moves) is

whole_by : (start most parent : ℕ) (last : Board) (main beside : List DrawnMove) (state : ℕ) → line (most - parent) last state ≡ ended last state
    → IsDrawn start most parent last main beside state → IsWhole start most last main beside state
whole_by start most parent last main beside state end drawn = record {
  nodes = ap (λ l. nodes_of_rows main ++ (l ++ nodes_of_rows (reverse beside))) (sym (none_after parent (parent + 1) (line (most - parent) last state) last state end)) ∙ drawn.nodes;
  last_is = sym (ap (λ l. l.last) end) ∙ drawn.last_is;
  state_is = sym (ap (λ l. l.state) end) ∙ drawn.state_is;
}

pub whole_full : (start most parent : ℕ) (last : Board) (main beside : List DrawnMove) (state : ℕ) → most ≤ parent
    → IsDrawn start most parent last main beside state → IsWhole start most last main beside state
whole_full start most parent last main beside state full drawn = whole_by start most parent last main beside state (line_full (most - parent) last state (omega (arith, full))) drawn

pub whole_over : (start most parent : ℕ) (last : Board) (main beside : List DrawnMove) (state : ℕ) → is_over last ≡ true
    → IsDrawn start most parent last main beside state → IsWhole start most last main beside state
whole_over start most parent last main beside state over drawn = whole_by start most parent last main beside state (line_over (most - parent) last state over) drawn
