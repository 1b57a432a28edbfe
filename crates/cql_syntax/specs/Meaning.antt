-- The meaning of a query: the value of each of its filters at each node of a game.
use Rattle.std.specs.Prelude.{ℕ, Bool, true, false, ◌&&◌, not, ◌==◌, List, [], ◌∷◌, map, length, Option, Some, None, is_some, option_map, option_to_list, unwrap_or, pos, if◌then◌else◌}
use Rattle.std.specs.List.{list_any, filter}
use Rattle.std.specs.Str.{bytes_eq}
use Rattle.cq_geometry.specs.Lines.{orthogonals, diagonals}
use Rattle.cq_geometry.specs.declared.compass.Compass.{Compass}
use Rattle.cq_geometry.specs.declared.compass.Compass.TheVariants.{Up as ToUp, Down as ToDown, Left as ToLeft, Right as ToRight, Northeast as ToNortheast, Northwest as ToNorthwest, Southeast as ToSoutheast, Southwest as ToSouthwest}
use Rattle.cq_common.specs.Greatest.{longest}
use Rattle.cq_common.specs.Spelling.{Pattern, one, nothing, joined, repeated, spells}
use Rattle.cq_common.specs.Range.{is_within}
use Rattle.cq_position.specs.Attacks.{in_check}
use Rattle.cq_position.specs.Board.{Board, man_at}
use Rattle.cq_position.specs.Games.{node_at, is_main, way_up}
use Rattle.cq_position.specs.Led.{PlainLed, led_to}
use Rattle.cq_position.specs.Legality.{has_legal_move}
use Rattle.cq_position.specs.Men.{man_number}
use Rattle.cq_position.specs.Search.{SearchedTree, children_in, below_in, ply, depth, paths}
use Rattle.cq_position.specs.declared.men.Man.{Man}
use Rattle.cq_position.specs.declared.men.Side.{Side}
use Rattle.cq_position.specs.declared.men.Side.TheVariants.{White as WhiteSide, Black as BlackSide}
use Rattle.cq_symmetry.specs.Families.{members}
use Rattle.cq_symmetry.specs.Images.{is_in, compasses}
use Rattle.cq_symmetry.specs.Mappings.{PlainMapping}
use Rattle.cql_syntax.specs.Contexts.{Context, designator_image, word_image, of_image, field_image, outcome_image, unary_image, way_image}
use Rattle.cql_syntax.specs.Headers.{has_text, year, rating, is_result}
use Rattle.cql_syntax.specs.Kinds.{filter_kind}
use Rattle.cql_syntax.specs.Trees.{FilterTree, filter_at, FormTree, designator, number, name, plain, tagged, outcome, elo, unary, direction, chain, sum_of, pair, if_, square, line, played, transform, sort, comment, any, FilterTrees, no_filters, more_filters, TermTrees, no_terms, more_terms, LineTree, path, PlayedTree, move_of, WrittenTree, left_out, written, PartTrees, no_parts, more_parts, BodyTree, atom, group}
use Rattle.cql_syntax.specs.Values.{Value, as_truth, as_number, squares_where, count, holds, has, amount, complement_of, light_of, dark_of, reached_of, size_of, power_of, total_of, if_of, square_of, chain_of, pair_of, any_of}
use Rattle.cql_syntax.specs.declared.extents.Extent.{Extent}
use Rattle.cql_syntax.specs.declared.extents.Extent.TheVariants.{Any as AnyLength, Within}
use Rattle.cql_syntax.specs.declared.leaves.Designator.{Designator}
use Rattle.cql_syntax.specs.declared.leaves.Mark.{Mark}
use Rattle.cql_syntax.specs.declared.leaves.Mark.TheVariants.{Once, Star, Plus, Maybe, Times}
use Rattle.cql_syntax.specs.declared.leaves.Plain.{Plain}
use Rattle.cql_syntax.specs.declared.leaves.Plain.TheVariants.{Check, Mate, Stalemate, Wtm, Btm, Initial, Terminal, Mainline, Variation, HasComment, Ply, MoveNumber, Depth, Year}
use Rattle.cql_syntax.specs.declared.leaves.Unary.{Unary}
use Rattle.cql_syntax.specs.declared.leaves.Unary.TheVariants.{Not, Complement, Count, Power, Light, Dark, Find, FindUp, Child, Parent}
use Rattle.cql_syntax.specs.declared.leaves.Way.{Way}
use Rattle.cql_syntax.specs.declared.leaves.Way.TheVariants.{Up, Down, Left, Right, Northeast, Northwest, Southeast, Southwest, Diagonal, Orthogonal, AnyDirection}

-- the squares bound to names, the innermost first
abbrev pub Names : Type 0
Names = List (List ℕ × ℕ)

-- an inner binding hides an outer one of the same name
abbrev pub is_bound_to : Names → List ℕ → ℕ → Bool
is_bound_to [] text s = false
is_bound_to (b ∷ e) text s = if bytes_eq b.0 text then b.1 == s else is_bound_to e text s

abbrev pub position_at : SearchedTree → ℕ → Board
position_at tree n = (node_at tree.game.nodes n).position

-- the squares of a designator that have one of its men, its empty square among them; none for a designator without an image
abbrev pub stands_on : List Man → Option Designator → ℕ → Bool
stands_on men None s = false
stands_on men (Some d) s = is_in d.part.squares s && is_in d.men (man_number (man_at men s))

abbrev pub standing_of : List Man → Option Designator → Value
standing_of men d = squares_where (stands_on men d)

abbrev pub directions_of : Way → List Compass
directions_of Up = ToUp ∷ []
directions_of Down = ToDown ∷ []
directions_of Left = ToLeft ∷ []
directions_of Right = ToRight ∷ []
directions_of Northeast = ToNortheast ∷ []
directions_of Northwest = ToNorthwest ∷ []
directions_of Southeast = ToSoutheast ∷ []
directions_of Southwest = ToSouthwest ∷ []
directions_of Diagonal = diagonals
directions_of Orthogonal = orthogonals
directions_of AnyDirection = compasses

-- The side to move is in check (FIDE Laws of Chess, article 3.9.1). Mate and stalemate depend on a legal move too (5.1.1 and 5.2.1).
abbrev pub is_check : Board → Bool
is_check p = in_check p.men p.side

abbrev pub is_white : Side → Bool
is_white WhiteSide = true
is_white BlackSide = false

abbrev pub word_of : SearchedTree → Plain → ℕ → Value
word_of tree Check n = as_truth (is_check (position_at tree n))
word_of tree Mate n = as_truth (is_check (position_at tree n) && not (has_legal_move (position_at tree n)))
word_of tree Stalemate n = as_truth (not (is_check (position_at tree n)) && not (has_legal_move (position_at tree n)))
word_of tree Wtm n = as_truth (is_white (position_at tree n).side)
word_of tree Btm n = as_truth (not (is_white (position_at tree n).side))
word_of tree Initial n = as_truth (n == 0)
word_of tree Terminal n = as_truth (length (children_in tree n) == 0)
word_of tree Mainline n = as_truth (is_main tree.game.nodes n)
word_of tree Variation n = as_truth (not (is_main tree.game.nodes n))
word_of tree HasComment n = as_truth (not (length (node_at tree.game.nodes n).comments == 0))
word_of tree Ply n = count (ply tree.game.nodes n)
word_of tree MoveNumber n = count (position_at tree n).number
word_of tree Depth n = count (depth tree.game.nodes n)
word_of tree Year n = as_number (year tree.game)

-- some of these nodes has a value that holds
abbrev pub some_node : (ℕ → Value) → List ℕ → Value
some_node v nodes = as_truth (list_any (λ m. holds (v m)) nodes)

-- the value of a word or mark before a part at a node, from the part's value at each node
abbrev pub unary_of : SearchedTree → Unary → (ℕ → Value) → ℕ → Value
unary_of tree Not v n = as_truth (not (holds (v n)))
unary_of tree Complement v n = complement_of (v n)
unary_of tree Count v n = size_of (v n)
unary_of tree Power v n = power_of (position_at tree n).men (v n)
unary_of tree Light v n = light_of (v n)
unary_of tree Dark v n = dark_of (v n)
unary_of tree Find v n = some_node v (below_in tree n)
unary_of tree FindUp v n = some_node v (way_up tree.game.nodes n)
unary_of tree Child v n = some_node v (children_in tree n)
unary_of tree Parent v n = some_node v (option_to_list (node_at tree.game.nodes n).parent)

-- lines

abbrev pub marked : {A : Type 0} → Mark → Pattern A → Pattern A
marked Once p = p
marked Star p = repeated 0 None p
marked Plus p = repeated 1 None p
marked Maybe p = repeated 0 (Some 1) p
marked (Times least most) p = repeated least (Some most) p

-- the lengths that an extent allows
abbrev pub allows : Extent → ℕ → Bool
allows AnyLength len = true
allows (Within least most) len = is_within least most len

-- the greatest length of those paths that the pattern spells, of the lengths that the extent allows
abbrev pub line_of : SearchedTree → (back primary : Bool) → Extent → Pattern (ℕ → Value) → ℕ → Value
line_of tree back primary extent p n =
    as_number (option_map pos (longest (λ w. allows extent (length w) && spells (λ v m. holds (v m)) p w) (paths tree back primary n)))

-- the move to a node

-- a square that a part requires is present, and in the part's set; a part that is left out requires nothing
abbrev pub meets : Option Value → Option ℕ → Bool
meets None s = true
meets (Some x) None = false
meets (Some x) (Some s) = has x s

abbrev pub goal_if : Bool → ℕ → Option ℕ
goal_if promoted goal = if promoted then Some goal else None

-- nothing holds if no move or a null move led to the node
abbrev pub meets_all : Option PlainLed → (origin goal taken promoted : Option Value) → Bool
meets_all None origin goal taken promoted = false
meets_all (Some l) origin goal taken promoted =
    meets origin (Some l.origin) && meets goal (Some l.goal) && meets taken l.taken && meets promoted (goal_if l.promoted l.goal)

-- the parent of a node, or the node itself if it has none
abbrev pub before : SearchedTree → ℕ → ℕ
before tree n = unwrap_or (node_at tree.game.nodes n).parent n

-- A filter fits a context if each designator in it outside of families has an image, and each outermost family in it has a member that
-- fits. A member fits if the family's part fits that member followed by the context.
unfoldable mutual
  pub fits : Context → FilterTree → Bool
  fits g (filter_at at f) = form_fits g f

  pub form_fits : Context → FormTree → Bool
  form_fits g (designator d) = is_some (designator_image g d)
  form_fits g (number k) = true
  form_fits g (name text) = true
  form_fits g (plain word) = true
  form_fits g (tagged field text) = true
  form_fits g (outcome o) = true
  form_fits g (elo whose) = true
  form_fits g (unary u f) = fits g f
  form_fits g (direction way m n f) = fits g f
  form_fits g (chain c fs) = all_fit g fs
  form_fits g (sum_of ts) = terms_fit g ts
  form_fits g (pair c a b) = fits g a && fits g b
  form_fits g (if_ a b c) = fits g a && fits g b && fits g c
  form_fits g (square every text a b) = fits g a && fits g b
  form_fits g (line l) = line_fits g l
  form_fits g (played p) = played_fits g p
  form_fits g (transform t f) = list_any (λ h. fits (h ∷ g) f) (members t)
  form_fits g (sort least text f) = fits g f
  form_fits g (comment text) = true
  form_fits g (any kind fs) = all_fit g fs

  pub all_fit : Context → FilterTrees → Bool
  all_fit g no_filters = true
  all_fit g (more_filters f fs) = fits g f && all_fit g fs

  pub terms_fit : Context → TermTrees → Bool
  terms_fit g no_terms = true
  terms_fit g (more_terms minus f ts) = fits g f && terms_fit g ts

  pub line_fits : Context → LineTree → Bool
  line_fits g (path back primary extent cs) = parts_fit g cs

  pub played_fits : Context → PlayedTree → Bool
  played_fits g (move_of origin goal taken promoted) =
      written_fits g origin && written_fits g goal && written_fits g taken && written_fits g promoted

  pub written_fits : Context → WrittenTree → Bool
  written_fits g left_out = true
  written_fits g (written f) = fits g f

  pub parts_fit : Context → PartTrees → Bool
  parts_fit g no_parts = true
  parts_fit g (more_parts body mark cs) = body_fits g body && parts_fit g cs

  pub body_fits : Context → BodyTree → Bool
  body_fits g (atom f) = fits g f
  body_fits g (group cs) = parts_fit g cs

-- the contexts of a family's members with which its part fits
abbrev pub fitting : Context → List PlainMapping → FilterTree → List Context
fitting g ms f = filter (λ h. fits h f) (map (λ m. m ∷ g) ms)

-- The value of a filter in a searched tree, in a context and with squares bound to names, at a node.
unfoldable mutual
  pub value : SearchedTree → Context → Names → FilterTree → ℕ → Value
  value tree g e (filter_at at f) n = form_value tree g e f n

  pub form_value : SearchedTree → Context → Names → FormTree → ℕ → Value
  form_value tree g e (designator d) n = standing_of (position_at tree n).men (designator_image g d)
  form_value tree g e (number k) n = count k
  form_value tree g e (name text) n = squares_where (is_bound_to e text)
  form_value tree g e (plain word) n = word_of tree (word_image g word) n
  form_value tree g e (tagged field text) n = as_truth (has_text tree.game (field_image g field) text)
  form_value tree g e (outcome o) n = as_truth (is_result (outcome_image g o) tree.game.result)
  form_value tree g e (elo whose) n = as_number (rating tree.game (of_image g whose))
  form_value tree g e (unary u f) n = unary_of tree (unary_image g u) (value tree g e f) n
  form_value tree g e (direction way a b f) n = reached_of (directions_of (way_image g way)) a b (value tree g e f n)
  form_value tree g e (chain c fs) n = chain_of c (values tree g e fs n)
  form_value tree g e (sum_of ts) n = total_of (term_values tree g e ts n)
  form_value tree g e (pair c a b) n = pair_of (position_at tree n).men c (value tree g e a n) (value tree g e b n)
  form_value tree g e (if_ a b c) n = if_of (value tree g e a n) (value tree g e b n) (value tree g e c n)
  form_value tree g e (square every text a b) n = square_of every (value tree g e a n) (λ s. holds (value tree g ((text, s) ∷ e) b n))
  form_value tree g e (line l) n = line_value tree g e l n
  form_value tree g e (played p) n = as_truth (played_value tree g e p n)
  form_value tree g e (transform t f) n = any_of (filter_kind f) (map (λ h. value tree h e f n) (fitting g (members t) f))
  form_value tree g e (sort least text f) n = as_truth (is_some (amount (value tree g e f n)))
  form_value tree g e (comment text) n = as_truth true
  form_value tree g e (any kind fs) n = any_of kind (values tree g e fs n)

  pub values : SearchedTree → Context → Names → FilterTrees → ℕ → List Value
  values tree g e no_filters n = []
  values tree g e (more_filters f fs) n = value tree g e f n ∷ values tree g e fs n

  -- each value with a flag: true if it is subtracted
  pub term_values : SearchedTree → Context → Names → TermTrees → ℕ → List (Bool × Value)
  term_values tree g e no_terms n = []
  term_values tree g e (more_terms minus f ts) n = (minus, value tree g e f n) ∷ term_values tree g e ts n

  pub line_value : SearchedTree → Context → Names → LineTree → ℕ → Value
  line_value tree g e (path back primary extent cs) n = line_of tree back primary extent (pattern tree g e cs) n

  pub pattern : SearchedTree → Context → Names → PartTrees → Pattern (ℕ → Value)
  pattern tree g e no_parts = nothing
  pattern tree g e (more_parts body mark cs) = joined (marked mark (body_pattern tree g e body)) (pattern tree g e cs)

  pub body_pattern : SearchedTree → Context → Names → BodyTree → Pattern (ℕ → Value)
  body_pattern tree g e (atom f) = one (value tree g e f)
  body_pattern tree g e (group cs) = pattern tree g e cs

  -- a move's origin and capture are evaluated at the parent, its goal and promotion at the node itself
  pub played_value : SearchedTree → Context → Names → PlayedTree → ℕ → Bool
  played_value tree g e (move_of origin goal taken promoted) n =
      meets_all (led_to tree.game.nodes n) (written_value tree g e origin (before tree n)) (written_value tree g e goal n)
      (written_value tree g e taken (before tree n)) (written_value tree g e promoted n)

  pub written_value : SearchedTree → Context → Names → WrittenTree → ℕ → Option Value
  written_value tree g e left_out n = None
  written_value tree g e (written f) n = Some (value tree g e f n)
