-- The nodes of a game from its rows in preorder.
use Rattle.std.specs.Prelude.{ℕ, ◌+◌, List, [], ◌∷◌, ◌++◌, length, take, slice_index}
use Rattle.cq_position.specs.declared.games.GameResult.{GameResult}
use Rattle.cq_position.specs.Games.{Node, Game}
use Rattle.cq_position.specs.Continuations.{node_of}
use Rattle.pgn_reader.specs.Games.{root}
use Rattle.pgn_reader.specs.ReadingPlace.{ReadingPlace, after_opening, after_name, after_value, in_movetext, after_marker}
use Rattle.pgn_reader.specs.Internal.Frame.{NodeRow, Frame, place, whole}
use Rattle.pgn_reader.specs.Internal.Machine.{Head, State, opened, named, valued, at, ended, stuck}

-- the path down to a node at a level, and then that node
abbrev pub path_down : List ℕ → ℕ → ℕ → List ℕ
path_down way level k = take (level + 1) way ++ k ∷ []

-- nodes numbered from k on; `way` has the numbers on the path down from the root to the node before, and a row's level
-- selects its parent there
unfoldable pub nodes_by : (way : List ℕ) → (k : ℕ) → List NodeRow → List Node
nodes_by way k [] = []
nodes_by way k (r ∷ rs) = node_of (slice_index way r.level) r.move ∷ nodes_by (path_down way r.level k) (k + 1) rs

-- the first row is the root's
abbrev pub nodes_of_rows : List NodeRow → List Node
nodes_of_rows [] = []
nodes_of_rows (r ∷ rs) = root r.move.position r.move.comments ∷ nodes_by (0 ∷ []) 1 rs

-- the game of a line at the outermost level
abbrev pub game_of_frame : Head → Frame → GameResult → Game
game_of_frame h f result = record { tags = h.tags; result = result; nodes = nodes_of_rows (whole f) }

-- the place of the tokens that lead to a state
abbrev pub reading_place_of : State → ReadingPlace
reading_place_of (opened tags) = after_opening tags
reading_place_of (named tags name) = after_name tags name
reading_place_of (valued tags start) = after_value
reading_place_of (at h f k) = in_movetext h.heading (length k) h.moves (place f)
reading_place_of (ended h f result) = after_marker
reading_place_of stuck = after_marker
