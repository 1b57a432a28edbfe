-- A game as plain data: its tags, its result, and the tree of its positions (PGN standard, section 8).
use Rattle.std.specs.Prelude.{◌≡◌, ◌≢◌, if◌then◌else◌, ℕ, zero, suc, ◌+◌, ◌-◌, ◌<◌, ◌≤◌, ◌==◌, ◌&&◌, ◌||◌, nat_lt, Bool, false, List, [], ◌∷◌, ◌++◌, length, filter, Option, Some, None, slice_index_or, slice_set, Contains, All}
use Rattle.std.specs.Option.{option_map, is_some}
use Rattle.std.specs.Str.{bytes_eq}
use Rattle.std.specs.List.{find, list_all, list_any, range_with_len}
use Rattle.cq_position.specs.declared.games.GameResult.{GameResult}
use Rattle.cq_position.specs.declared.moves.Move.{Move}
use Rattle.cq_position.specs.Board.{Board, start_board}
use Rattle.cq_position.specs.Comments.{closing_brace, words, comment_of}
use Rattle.cq_position.specs.Legal.{Leads}

-- the most positions of a game
abbrev pub most_positions : ℕ
most_positions = 65536

-- the numbers of glyphs are below this (PGN standard, section 8.2.4)
abbrev pub glyph_numbers : ℕ
glyph_numbers = 256

-- A node is a position of a game. It has the number of its parent and the move that led from there, but the root has neither. Its numeric
-- annotation glyphs (section 8.2.4) and its comments (section 5) belong to the move. The root's comments belong to the game.
pub record Node : Type 0 where
  pub parent : Option ℕ
  pub led_by : Option Move
  pub position : Board
  pub nags : List ℕ
  pub comments : List (List ℕ)

-- A game has the names and values of its tags (section 8.1), in the order in which each name first occurs. Values have no backslashes that
-- escape a byte. A game also has its result and its nodes, numbered from 0. The root, number 0, has the starting position.
pub record Game : Type 0 where
  pub tags : List (List ℕ × List ℕ)
  pub result : GameResult
  pub nodes : List Node

-- the value of the tag with this name
abbrev pub tag_value : List ℕ → List (List ℕ × List ℕ) → Option (List ℕ)
tag_value name tags = option_map (λ t. t.1) (find (λ t. bytes_eq name t.0) tags)

-- the tags with one more; a name that exists keeps its value
abbrev pub with_tag : List (List ℕ × List ℕ) → List ℕ → List ℕ → List (List ℕ × List ℕ)
with_tag tags name value = if is_some (tag_value name tags) then tags else tags ++ (name, value) ∷ []

-- the tag of a number, or an empty one if there is none
abbrev pub tag_at : List (List ℕ × List ℕ) → ℕ → List ℕ × List ℕ
tag_at tags i = slice_index_or tags i ([], [])

-- no two tags have the same name
pub record HaveDistinctNames (tags : List (List ℕ × List ℕ)) : Type 0 where
  pub differ : (i j : ℕ) → i < j → j < length tags → (tag_at tags i).0 ≢ (tag_at tags j).0

-- the node returned for a number that no node has
abbrev pub no_node : Node
no_node = record { parent = None; led_by = None; position = start_board; nags = []; comments = [] }

abbrev pub node_at : List Node → ℕ → Node
node_at nodes n = slice_index_or nodes n no_node

-- a node without numeric annotation glyphs and comments
abbrev pub bare_node : Option ℕ → Option Move → Board → Node
bare_node parent led_by position = record { parent = parent; led_by = led_by; position = position; nags = []; comments = [] }

-- a node with one more numeric annotation glyph, and with one more comment, made of the words of a text
abbrev pub with_nag : ℕ → Node → Node
with_nag nag node = record node { nags = node.nags ++ nag ∷ [] }

abbrev pub with_comment : List ℕ → Node → Node
with_comment text node = record node { comments = node.comments ++ comment_of (words text) }

-- a node with more numeric annotation glyphs, and with more comments, after its own
abbrev pub with_nags : List ℕ → Node → Node
with_nags nags node = record node { nags = node.nags ++ nags }

abbrev pub with_comments : List (List ℕ) → Node → Node
with_comments comments node = record node { comments = node.comments ++ comments }

-- A comment as a game keeps it: at least one word, single spaces between words, and no `}`, which would end it.
pub record IsComment (comment : List ℕ) : Type 0 where
  pub spaced : comment_of (words comment) ≡ comment ∷ []
  pub no_brace : All (λ b. b ≢ closing_brace) comment

-- the invariant of a node's notes: the glyphs' numbers are in range, and the comments are as a game keeps them
pub record HasNotes (node : Node) : Type 0 where
  pub nags : All (λ nag. nag < glyph_numbers) node.nags
  pub comments : All IsComment node.comments

abbrev pub HaveNotes : List Node → Type 0
HaveNotes nodes = All HasNotes nodes

-- the nodes after a change of one of them
abbrev pub with_node : List Node → ℕ → (Node → Node) → List Node
with_node nodes n change = slice_set nodes n (change (node_at nodes n))

-- the numbers of the nodes
abbrev pub numbers : List Node → List ℕ
numbers nodes = range_with_len 0 (length nodes)

-- true if the optional number is n
abbrev pub is_number : Option ℕ → ℕ → Bool
is_number None n = false
is_number (Some m) n = m == n

-- The children of a node are the nodes whose parent it is, the moves played after its position. The first of them is in the line itself,
-- and the others are variations (section 8.2.5).
abbrev pub is_child_of : List Node → ℕ → ℕ → Bool
is_child_of nodes n k = is_number (node_at nodes k).parent n

unfoldable pub children : List Node → ℕ → List ℕ
children nodes n = filter (is_child_of nodes n) (numbers nodes)

unfoldable pub first_child : List Node → ℕ → Option ℕ
first_child nodes n = find (is_child_of nodes n) (numbers nodes)

-- Siblings have the same parent. The next sibling of a node is the first one after it.
abbrev pub is_later_sibling : List Node → Option ℕ → ℕ → ℕ → Bool
is_later_sibling nodes None n k = false
is_later_sibling nodes (Some p) n k = nat_lt n k && is_child_of nodes p k

unfoldable pub next_sibling : List Node → ℕ → Option ℕ
next_sibling nodes n = find (is_later_sibling nodes (node_at nodes n).parent n) (numbers nodes)

-- no node after n has the same parent
pub record IsLastSibling (nodes : List Node) (n : ℕ) : Type 0 where
  pub other : (k : ℕ) → n < k → k < length nodes → (node_at nodes k).parent ≢ (node_at nodes n).parent

-- true if a node is the first child of its parent
abbrev pub is_first_child_of : List Node → Option ℕ → ℕ → Bool
is_first_child_of nodes None n = false
is_first_child_of nodes (Some p) n = is_number (first_child nodes p) n

abbrev pub is_first_child : List Node → ℕ → Bool
is_first_child nodes n = is_first_child_of nodes (node_at nodes n).parent n

-- a node, its parent, and so on, so many at most
abbrev pub up_from : ℕ → List Node → Option ℕ → List ℕ
up_from zero nodes n = []
up_from (suc most) nodes None = []
up_from (suc most) nodes (Some n) = n ∷ up_from most nodes (node_at nodes n).parent

-- The way up from n: itself, its parent, and so on, up to the root. It has at most n + 1 nodes, since parents come first.
unfoldable pub way_up : List Node → ℕ → List ℕ
way_up nodes n = up_from (n + 1) nodes (Some n)

-- true of n and its descendants
abbrev pub is_below : List Node → ℕ → ℕ → Bool
is_below nodes n k = list_any (λ m. m == n) (way_up nodes k)

-- the main line: the root, its first child, and so on
abbrev pub is_main : List Node → ℕ → Bool
is_main nodes n = list_all (λ m. (m == 0) || is_first_child nodes m) (way_up nodes n)

unfoldable pub main_line : List Node → List ℕ
main_line nodes = filter (is_main nodes) (numbers nodes)

-- the searched tree: all nodes with variations, else the main line
abbrev pub is_searched : Bool → List Node → ℕ → Bool
is_searched variations nodes n = variations || is_main nodes n

unfoldable pub searched : Bool → List Node → List ℕ
searched variations nodes = filter (is_searched variations nodes) (numbers nodes)

-- the nodes are the same except for their numeric annotation glyphs and comments
pub record IsSamePlace (a b : Node) : Type 0 where
  pub parent : a.parent ≡ b.parent
  pub led_by : a.led_by ≡ b.led_by
  pub position : a.position ≡ b.position

-- the root has no parent, and no move led to it
pub record IsRoot (node : Node) : Type 0 where
  pub parent : node.parent ≡ None
  pub led_by : node.led_by ≡ None

-- Every node but the root comes after its parent. A legal move or an allowed null move leads from the parent's position to its own. The
-- order is preorder: the parent is the node just before it, or an ancestor of that node.
pub record IsChild (nodes : List Node) (n : ℕ) : Type 0 where
  pub number : ℕ
  pub move : Move
  pub parent : (node_at nodes n).parent ≡ Some number
  pub led_by : (node_at nodes n).led_by ≡ Some move
  pub after : number < n
  pub leads : Leads (node_at nodes number).position move (node_at nodes n).position
  pub preorder : Contains (way_up nodes (n - 1)) number

-- the nodes of a game: the root and its descendants in preorder, within the limit on positions
pub record IsTree (nodes : List Node) : Type 0 where
  pub rooted : 0 < length nodes
  pub few : length nodes ≤ most_positions
  pub root : IsRoot (node_at nodes 0)
  pub children : (n : ℕ) → 0 < n → n < length nodes → IsChild nodes n
