-- The movetext as a list of words (PGN standard, section 8.2).
use Rattle.std.specs.Prelude.{ℕ, Bool, true, false, ◌||◌, List, [], ◌∷◌, ◌++◌, map, codes, decimal, drop}
use Rattle.std.specs.List.{flat_map}
use Rattle.cq_position.specs.declared.men.Side.{Side}
use Rattle.cq_position.specs.declared.men.Side.TheVariants.{White, Black}
use Rattle.cq_position.specs.Board.{Board}
use Rattle.cq_position.specs.Continuations.{Played, Continuations, none, played, continuations}
use Rattle.cq_position.specs.Games.{Game, node_at}
use Rattle.cq_san.specs.Writing.{san_text}
use Rattle.pgn_export.specs.Words.{comment_words, in_parens}
use Rattle.pgn_tree.specs.Results.{result_text}

-- The number of a move (section 8.2.2) comes before each move of White. Before a move of Black it comes with three
-- periods, if it is due. It is due if the move begins the movetext or a variation, or follows a glyph, a comment or a
-- variation.
abbrev pub number_words : Side → (due : Bool) → ℕ → List (List ℕ)
number_words White due number = (decimal number ++ codes ".") ∷ []
number_words Black true number = (decimal number ++ codes "...") ∷ []
number_words Black false number = []

-- a numeric annotation glyph (section 8.2.4)
abbrev pub nag_word : ℕ → List ℕ
nag_word nag = codes "$" ++ decimal nag

-- a move in the position before it: its number, its text, its glyphs and its comments
abbrev pub move_words : Board → (due : Bool) → Played → List (List ℕ)
move_words p due m =
    number_words p.side due p.number ++ ((san_text p m.move ∷ []) ++ (map nag_word m.nags ++ flat_map comment_words m.comments))

-- true if a list has an element
abbrev pub is_any : {A : Type 0} → List A → Bool
is_any [] = false
is_any (x ∷ xs) = true

-- true if a move is played
abbrev pub is_played : Continuations → Bool
is_played none = false
is_played (played m next others) = true

-- true if a number is due after a move, its glyphs, its comments and its variations
abbrev pub is_due : Played → (variations : Continuations) → Bool
is_due m variations = is_any m.nags || is_any m.comments || is_played variations

-- The words of the moves played after a position: the first move, the variations that replace it, and the rest of the
-- line. A variation has its own first move and the rest of its line; the other variations come after it.
unfoldable mutual
  pub line_words : Board → (due : Bool) → Continuations → List (List ℕ)
  line_words p due none = []
  line_words p due (played m next others) =
      move_words p due m ++ (variation_words p others ++ line_words m.position (is_due m others) next)

  pub variation_words : Board → Continuations → List (List ℕ)
  variation_words p none = []
  variation_words p (played m next others) =
      in_parens (move_words p true m ++ line_words m.position (is_due m none) next) ++ variation_words p others

-- the moves played in a game after its start
abbrev pub played_in : Game → Continuations
played_in g = continuations 0 1 (drop 1 g.nodes)

-- the comments on the start, the line from there with its variations, and the marker
abbrev pub movetext : Game → List (List ℕ)
movetext g =
    flat_map comment_words (node_at g.nodes 0).comments
    ++ (line_words (node_at g.nodes 0).position true (played_in g) ++ (result_text g.result ∷ []))
