-- Normal games: those that are written as they are, so that they are read back from their text.
use Rattle.std.specs.Prelude.{◌≡◌, ℕ, ◌+◌, ◌≤◌, true, not, List, [], ◌++◌, ◌∷◌, length, take, drop, map, max, codes, Bool, Some, None, Result, Ok, Err}
use Rattle.std.specs.Cmp.Lexicographic.{slice_cmp}
use Rattle.std.specs.List.{AllByRecursion, list_all}
use Rattle.std.specs.List.Sorted.{IsStrictlySortedBy}
use Rattle.std.specs.Ordering.{nat_cmp}
use Rattle.cq_common.specs.declared.faults.Refusal.{Refusal}
use Rattle.cq_common.specs.declared.faults.Refusal.TheVariants.{Fault, NoMemory}
use Rattle.cq_position.specs.Continuations.{Continuations, none, played}
use Rattle.cq_position.specs.Games.{Game, node_at, tag_value}
use Rattle.pgn_lexer.specs.Bytes.{line_feed}
use Rattle.pgn_lexer.specs.Grammar.{Lacks, IsLexeme}
use Rattle.pgn_lexer.specs.declared.token.LexemeKind.TheVariants.{Token}
use Rattle.pgn_lexer.specs.declared.token.TokenKind.TheVariants.{Symbol}
use Rattle.pgn_reader.specs.declared.fault.GameFault.{GameFault}
use Rattle.pgn_reader.specs.Limits.{longest, most_levels}
use Rattle.pgn_reader.specs.Tags.{start_of}
use Rattle.pgn_reader.specs.Verdict.{IsReadOrNoMemory}
use Rattle.pgn_reader.specs.Words.{result_of_text}
use Rattle.pgn_export.specs.Export.{export_text}
use Rattle.pgn_export.specs.Movetext.{played_in}
use Rattle.pgn_tree.specs.Results.{result_text}
use Rattle.pgn_export.specs.TagLines.{is_in_roster, roster}

-- the number of levels of the variations: one that replaces a move of a line is a level above that line
unfoldable mutual
  pub levels : Continuations → ℕ
  levels none = 0
  levels (played m next others) = max (levels next) (levels_beside others)

  pub levels_beside : Continuations → ℕ
  levels_beside none = 0
  levels_beside (played m next others) = max (1 + levels next) (levels_beside others)

-- a tag's name is a symbol that marks no result, and its value is on one line (PGN standard, section 7)
pub record IsWritable (t : List ℕ × List ℕ) : Type 0 where
  pub name : IsLexeme true (Token Symbol) t.0
  pub no_marker : result_of_text t.0 ≡ None
  pub value : Lacks line_feed t.1

-- the names of the seven tag roster, in its order (section 8.1.1)
abbrev pub roster_names : List (List ℕ)
roster_names = map (λ t. t.0) roster ++ codes "Result" ∷ []

-- tags in export order: the roster, and then the others in the ASCII order of their names
pub record AreInExportOrder (tags : List (List ℕ × List ℕ)) : Type 0 where
  pub roster : map (λ t. t.0) (take 7 tags) ≡ roster_names
  pub others : list_all (λ t. not (is_in_roster t.0)) (drop 7 tags) ≡ true
  pub sorted : IsStrictlySortedBy (slice_cmp nat_cmp) (map (λ t. t.0) (drop 7 tags))

-- A normal game. Its tags can be written, and are in export order; the tag Result has its result (section 8.1.1.7).
-- With a tag FEN the tag SetUp is 1 (9.7.1), and the game begins in the position of that tag. Without one it begins
-- in that of the initial array (9.7.2). Its variations have at most 100 levels, its start has no glyph, and its text
-- has at most 2^24 bytes. The moves of every game are legal or allowed null moves.
pub record IsNormal (g : Game) : Type 0 where
  pub writable : AllByRecursion IsWritable g.tags
  pub order : AreInExportOrder g.tags
  pub result : tag_value (codes "Result") g.tags ≡ Some (result_text g.result)
  pub set_up : (fen : List ℕ) → tag_value (codes "FEN") g.tags ≡ Some fen → tag_value (codes "SetUp") g.tags ≡ Some (codes "1")
  pub start : start_of g.tags ≡ Ok (node_at g.nodes 0).position
  pub few_levels : levels (played_in g) ≤ most_levels
  pub no_glyph : (node_at g.nodes 0).nags ≡ []
  pub short : length (export_text g) ≤ longest

-- the result of reading is this game, unless out of memory
abbrev pub IsSameGame : Game → Result Game (Refusal GameFault) → Type 0
IsSameGame g (Ok read) = read ≡ g
IsSameGame g (Err (Fault fault)) = ⊥
IsSameGame g (Err NoMemory) = Unit {0}

-- a text is read as a game, at any place in an archive
abbrev pub IsReadAs : List ℕ → Game → Type 0
IsReadAs text g =
    (start : ℕ) (first : Bool) (answer : Result Game (Refusal GameFault)) → IsReadOrNoMemory start first text answer → IsSameGame g answer
