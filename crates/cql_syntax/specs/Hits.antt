-- The hits of a query in a game, the comments that mark them, and the keys by which games are sorted.
use Rattle.std.specs.Prelude.{ℕ, ◌==◌, fold, Bool, List, [], ◌∷◌, ◌++◌, map, Option, ℤ, if◌then◌else◌}
use Rattle.std.specs.List.{list_all, list_any, filter}
use Rattle.std.specs.Int.{int_max, int_min}
use Rattle.cq_position.specs.Games.{Game, Node, node_at, numbers, with_comment}
use Rattle.cq_position.specs.Search.{SearchedTree, nodes_in}
use Rattle.cql_syntax.specs.Meaning.{value, values}
use Rattle.cql_syntax.specs.Trees.{FilterTree, filter_at, FormTree, sort, comment, FilterTrees, no_filters, more_filters, QueryTree}
use Rattle.cql_syntax.specs.Values.{Value, holds, chosen_from}

-- the tree that a query searches in a game
abbrev pub tree_of : QueryTree → Game → SearchedTree
tree_of q game = record { game = game; variations = q.variations }

-- all items hold, in the empty context and without names
abbrev pub is_hit : SearchedTree → FilterTrees → ℕ → Bool
is_hit tree items n = list_all holds (values tree [] [] items n)

-- the nodes of a searched tree at which all items hold, by number
abbrev pub hits_in : SearchedTree → FilterTrees → List ℕ
hits_in tree items = filter (is_hit tree items) (nodes_in tree)

-- the hits of a query in a game; a game matches if it has one
unfoldable pub hits : QueryTree → Game → List ℕ
hits q game = hits_in (tree_of q game) q.items

-- the texts of the top comments, in the order of the items
abbrev pub form_texts : FormTree → List (List ℕ)
form_texts (comment text) = text ∷ []
form_texts _ = []

abbrev pub item_texts : FilterTree → List (List ℕ)
item_texts (filter_at at f) = form_texts f

abbrev pub comment_texts : FilterTrees → List (List ℕ)
comment_texts no_filters = []
comment_texts (more_filters f fs) = item_texts f ++ comment_texts fs

-- the texts with which each hit is marked: the match string, and then the comments
unfoldable pub marks : QueryTree → List (List ℕ)
marks q = q.match_text ∷ comment_texts q.items

-- The game in which each hit has the marks after its own comments, each as its words. A text without a word adds nothing.
abbrev pub with_marks : List (List ℕ) → Node → Node
with_marks texts node = fold (λ n text. with_comment text n) node texts

abbrev pub marked_node : QueryTree → Game → ℕ → Node
marked_node q game n =
    if list_any (λ hit. hit == n) (hits q game) then with_marks (marks q) (node_at game.nodes n) else node_at game.nodes n

unfoldable pub marked : QueryTree → Game → Game
marked q game = record game { nodes = map (marked_node q game) (numbers game.nodes) }

-- the lesser or the greater of two numbers
abbrev pub chosen : Bool → ℤ → ℤ → ℤ
chosen least = if least then int_min else int_max

-- the key of a sort item: its greatest value over the hits, or its least for an item with `min`
abbrev pub key_of : Bool → List Value → Option ℤ
key_of least vs = chosen_from (chosen least) vs

abbrev pub form_keys : SearchedTree → List ℕ → FormTree → List (Option ℤ)
form_keys tree found (sort least text f) = key_of least (map (value tree [] [] f) found) ∷ []
form_keys tree found _ = []

abbrev pub item_keys : SearchedTree → List ℕ → FilterTree → List (Option ℤ)
item_keys tree found (filter_at at f) = form_keys tree found f

abbrev pub all_keys : SearchedTree → List ℕ → FilterTrees → List (Option ℤ)
all_keys tree found no_filters = []
all_keys tree found (more_filters f fs) = item_keys tree found f ++ all_keys tree found fs

-- one key for each sort item, the first item foremost
unfoldable pub keys : QueryTree → Game → List (Option ℤ)
keys q game = all_keys (tree_of q game) (hits q game) q.items
