-- The tag pairs of a game (PGN standard, section 8.1), in export order.
use Rattle.std.specs.Prelude.{ℕ, ◌==◌, ◌||◌, not, Bool, List, [], ◌∷◌, ◌++◌, codes, map, if◌then◌else◌}
use Rattle.std.specs.BTreeMap.{insert_entry}
use Rattle.std.specs.Cmp.Lexicographic.{slice_cmp}
use Rattle.std.specs.List.{flat_map, fold, filter, list_any}
use Rattle.std.specs.Option.{unwrap_or, is_some}
use Rattle.std.specs.Ordering.{nat_cmp}
use Rattle.std.specs.Str.{bytes_eq}
use Rattle.cq_position.specs.Games.{Game, tag_value}
use Rattle.pgn_lexer.specs.Bytes.{quote, backslash}
use Rattle.pgn_tree.specs.Results.{result_text}

-- the tags that every game has, except the result (section 8.1.1), with the value of one that is missing
abbrev pub roster : List (List ℕ × List ℕ)
roster =
    (codes "Event", codes "?") ∷ (codes "Site", codes "?") ∷ (codes "Date", codes "????.??.??")
    ∷ (codes "Round", codes "?") ∷ (codes "White", codes "?") ∷ (codes "Black", codes "?") ∷ []

abbrev pub is_in_roster : List ℕ → Bool
is_in_roster name = list_any (λ t. bytes_eq name t.0) roster || bytes_eq name (codes "Result")

-- the value of a tag of the roster
unfoldable pub roster_tag : List (List ℕ × List ℕ) → List ℕ × List ℕ → List ℕ × List ℕ
roster_tag tags t = (t.0, unwrap_or (tag_value t.0 tags) t.1)

-- tags in the ASCII order of their names (section 8.1.1), each put in its place among those before; a name that is
-- present takes the new value
abbrev pub put : List (List ℕ × List ℕ) → List ℕ × List ℕ → List (List ℕ × List ℕ)
put tags t = insert_entry (slice_cmp nat_cmp) tags t.0 t.1

-- the same only for a tag that is not of the roster
abbrev pub put_other : List (List ℕ × List ℕ) → List ℕ × List ℕ → List (List ℕ × List ℕ)
put_other tags t = if is_in_roster t.0 then tags else put tags t

abbrev pub sorted : List (List ℕ × List ℕ) → List (List ℕ × List ℕ)
sorted tags = fold put [] tags

-- the tags that are not of the roster; with FEN the tag SetUp is 1 (section 9.7.1)
unfoldable pub other_tags : List (List ℕ × List ℕ) → List (List ℕ × List ℕ)
other_tags tags =
    if is_some (tag_value (codes "FEN") tags) then put (sorted (filter (λ t. not (is_in_roster t.0)) tags)) (codes "SetUp", codes "1")
    else sorted (filter (λ t. not (is_in_roster t.0)) tags)

-- all tags of the text: the roster, which ends with the game's result, and the others
abbrev pub written_tags : Game → List (List ℕ × List ℕ)
written_tags g = map (roster_tag g.tags) roster ++ ((codes "Result", result_text g.result) ∷ other_tags g.tags)

-- a quote and a backslash come after a backslash (section 7)
abbrev pub escaped_byte : ℕ → List ℕ
escaped_byte b = if b == quote || b == backslash then backslash ∷ b ∷ [] else b ∷ []

abbrev pub escaped : List ℕ → List ℕ
escaped text = flat_map escaped_byte text

-- `[Name "value"]` and LF
unfoldable pub tag_line : List ℕ × List ℕ → List ℕ
tag_line t = codes "[" ++ t.0 ++ codes " \"" ++ escaped t.1 ++ codes "\"]\n"
