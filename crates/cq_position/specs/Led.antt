-- The squares and the captured man of the move that led to a node.
use Rattle.std.specs.Prelude.{ℕ, Bool, List, ◌&&◌, not, ◌==◌, Option, Some, None, if◌then◌else◌}
use Rattle.cq_geometry.specs.Squares.{file_of, rank_of, square_of}
use Rattle.cq_position.specs.declared.moves.Move.{Move}
use Rattle.cq_position.specs.Attacks.{is_occupied}
use Rattle.cq_position.specs.Board.{Board, man_at, is_pawn}
use Rattle.cq_position.specs.Games.{Node, node_at}
use Rattle.cq_position.specs.Legal.{is_none}

-- The origin and the goal of a move, the square of the captured man, and a flag for promotion. For castling these are the king's squares.
pub record PlainLed : Type 0 where
  pub origin : ℕ
  pub goal : ℕ
  pub taken : Option ℕ
  pub promoted : Bool

-- The square on which a move captures a man: its goal if a man is there. If a pawn goes to another file and its goal is empty, it is the
-- adjoining square on that file (FIDE Laws of Chess, article 3.7, en passant). Otherwise there is none.
abbrev pub taken_square : Board → Move → Option ℕ
taken_square p m =
    if is_occupied p.men m.to then Some m.to
    else (if is_pawn (man_at p.men m.from) && not (file_of m.from == file_of m.to) then Some (square_of (file_of m.to) (rank_of m.from))
    else None)

-- none for a null move
unfoldable pub led : Board → Move → Option PlainLed
led p m =
    if m.null then None
    else Some (record { origin = m.from; goal = m.to; taken = taken_square p m; promoted = not (is_none m.promotion) })

-- the same for the move to a node; the root has none
abbrev pub led_from : List Node → Option Move → Option ℕ → Option PlainLed
led_from nodes None parent = None
led_from nodes (Some m) None = None
led_from nodes (Some m) (Some p) = led (node_at nodes p).position m

abbrev pub led_to : List Node → ℕ → Option PlainLed
led_to nodes n = led_from nodes (node_at nodes n).led_by (node_at nodes n).parent
