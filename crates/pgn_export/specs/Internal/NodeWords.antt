-- The moves played after a node, and those played instead of it, by the numbers of the nodes.
use Rattle.std.specs.Prelude.{ℕ, ◌+◌, Bool, ◌||◌, List, drop}
use Rattle.cq_position.specs.declared.moves.Move.{Move}
use Rattle.cq_position.specs.Games.{Node, node_at}
use Rattle.cq_position.specs.Continuations.{Played, Continuations, continuations}
use Rattle.pgn_export.specs.Movetext.{move_words, is_any, line_words, variation_words}

-- the written part of a node to which a move led
abbrev pub played_of : Node → Move → Played
played_of n m = record { move = m; position = n.position; nags = n.nags; comments = n.comments }

-- the children of a node among the nodes from number k on, with the moves played after each
unfoldable pub children_from : List Node → (parent k : ℕ) → Continuations
children_from nodes parent k = continuations parent k (drop k nodes)

-- the moves played after node k
abbrev pub after_node : List Node → ℕ → Continuations
after_node nodes k = children_from nodes k (k + 1)

-- the moves played instead of node k: its later siblings
abbrev pub instead_of : List Node → (parent k : ℕ) → Continuations
instead_of nodes parent k = children_from nodes parent (k + 1)

-- the words of the move to a node, of the line after it, and of the variations that replace it
abbrev pub words_to : List Node → (due : Bool) → (parent k : ℕ) → Move → List (List ℕ)
words_to nodes due parent k m = move_words (node_at nodes parent).position due (played_of (node_at nodes k) m)

abbrev pub words_after : List Node → (due : Bool) → ℕ → List (List ℕ)
words_after nodes due k = line_words (node_at nodes k).position due (after_node nodes k)

abbrev pub words_instead_of : List Node → (parent k : ℕ) → List (List ℕ)
words_instead_of nodes parent k = variation_words (node_at nodes parent).position (instead_of nodes parent k)

-- a node has a glyph or a comment
abbrev pub has_notes : Node → Bool
has_notes n = is_any n.nags || is_any n.comments
