-- The words and the marks of the query language, each with its text, and the reserved names, which are no words of it.
use Rattle.std.specs.Prelude.{ℕ, List, [], ◌∷◌, ◌++◌, map, Option, codes}
use Rattle.std.specs.List.{position, slice_get}
use Rattle.std.specs.Str.{bytes_eq}
use Rattle.cq_symmetry.specs.declared.families.Family.{Family}
use Rattle.cq_symmetry.specs.declared.families.Family.TheVariants as families
use Rattle.cql_syntax.specs.declared.leaves.Plain.{Plain}
use Rattle.cql_syntax.specs.declared.leaves.Plain.TheVariants as plains
use Rattle.cql_syntax.specs.declared.leaves.Unary.{Unary}
use Rattle.cql_syntax.specs.declared.leaves.Unary.TheVariants as unaries
use Rattle.cql_syntax.specs.declared.leaves.Way.{Way}
use Rattle.cql_syntax.specs.declared.leaves.Way.TheVariants as ways
use Rattle.cql_syntax.specs.declared.words.Sign.{Sign}
use Rattle.cql_syntax.specs.declared.words.Sign.TheVariants as signs
use Rattle.cql_syntax.specs.declared.words.Word.{Word}
use Rattle.cql_syntax.specs.declared.words.Word.TheVariants as meanings

-- the marks
abbrev pub sign_text : Sign → List ℕ
sign_text signs.Arrow = codes "-->"
sign_text signs.BackArrow = codes "<--"
sign_text signs.AtMost = codes "<="
sign_text signs.AtLeast = codes ">="
sign_text signs.Equal = codes "=="
sign_text signs.Less = codes "<"
sign_text signs.Greater = codes ">"
sign_text signs.Plus = codes "+"
sign_text signs.Minus = codes "-"
sign_text signs.Star = codes "*"
sign_text signs.Question = codes "?"
sign_text signs.Hash = codes "#"
sign_text signs.Bar = codes "|"
sign_text signs.Ampersand = codes "&"
sign_text signs.Tilde = codes "~"
sign_text signs.Open = codes "("
sign_text signs.Close = codes ")"
sign_text signs.OpenBrace = codes "{"
sign_text signs.CloseBrace = codes "}"
sign_text signs.Comma = codes ","

-- filters of one word
abbrev pub plain_text : Plain → List ℕ
plain_text plains.Check = codes "check"
plain_text plains.Mate = codes "mate"
plain_text plains.Stalemate = codes "stalemate"
plain_text plains.Wtm = codes "wtm"
plain_text plains.Btm = codes "btm"
plain_text plains.Initial = codes "initial"
plain_text plains.Terminal = codes "terminal"
plain_text plains.Mainline = codes "mainline"
plain_text plains.Variation = codes "variation"
plain_text plains.HasComment = codes "hascomment"
plain_text plains.Ply = codes "ply"
plain_text plains.MoveNumber = codes "movenumber"
plain_text plains.Depth = codes "depth"
plain_text plains.Year = codes "year"

-- words before one filter, and the two such marks; `find` towards the root is `find` and an arrow
abbrev pub unary_text : Unary → List ℕ
unary_text unaries.Not = codes "not"
unary_text unaries.Complement = sign_text signs.Tilde
unary_text unaries.Count = sign_text signs.Hash
unary_text unaries.Power = codes "power"
unary_text unaries.Light = codes "light"
unary_text unaries.Dark = codes "dark"
unary_text unaries.Find = codes "find"
unary_text unaries.FindUp = codes "find<--"
unary_text unaries.Child = codes "child"
unary_text unaries.Parent = codes "parent"

-- directions
abbrev pub way_text : Way → List ℕ
way_text ways.Up = codes "up"
way_text ways.Down = codes "down"
way_text ways.Left = codes "left"
way_text ways.Right = codes "right"
way_text ways.Northeast = codes "northeast"
way_text ways.Northwest = codes "northwest"
way_text ways.Southeast = codes "southeast"
way_text ways.Southwest = codes "southwest"
way_text ways.Diagonal = codes "diagonal"
way_text ways.Orthogonal = codes "orthogonal"
way_text ways.AnyDirection = codes "anydirection"

-- families of mappings
abbrev pub family_text : Family → List ℕ
family_text families.Flip = codes "flip"
family_text families.Rotate90 = codes "rotate90"
family_text families.FlipVertical = codes "flipvertical"
family_text families.FlipHorizontal = codes "fliphorizontal"
family_text families.FlipColor = codes "flipcolor"
family_text families.Shift = codes "shift"
family_text families.ShiftHorizontal = codes "shifthorizontal"
family_text families.ShiftVertical = codes "shiftvertical"

-- the words
abbrev pub word_text : Word → List ℕ
word_text meanings.Cql = codes "cql"
word_text meanings.Input = codes "input"
word_text meanings.Output = codes "output"
word_text meanings.MatchString = codes "matchstring"
word_text meanings.Variations = codes "variations"
word_text (meanings.Plain word) = plain_text word
word_text meanings.Result = codes "result"
word_text meanings.Player = codes "player"
word_text meanings.Event = codes "event"
word_text meanings.Site = codes "site"
word_text meanings.Elo = codes "elo"
word_text meanings.White = codes "white"
word_text meanings.Black = codes "black"
word_text (meanings.Unary word) = unary_text word
word_text meanings.And = codes "and"
word_text meanings.Or = codes "or"
word_text meanings.If = codes "if"
word_text meanings.Then = codes "then"
word_text meanings.Else = codes "else"
word_text meanings.Square = codes "square"
word_text meanings.All = codes "all"
word_text meanings.In = codes "in"
word_text meanings.Line = codes "line"
word_text meanings.Primary = codes "primary"
word_text meanings.Attacks = codes "attacks"
word_text meanings.AttackedBy = codes "attackedby"
word_text meanings.Between = codes "between"
word_text (meanings.Way way) = way_text way
word_text meanings.Max = codes "max"
word_text meanings.Min = codes "min"
word_text (meanings.Family family) = family_text family
word_text meanings.Sort = codes "sort"
word_text meanings.Comment = codes "comment"
word_text meanings.Move = codes "move"
word_text meanings.From = codes "from"
word_text meanings.To = codes "to"
word_text meanings.Capture = codes "capture"
word_text meanings.Promote = codes "promote"

-- the words in order; the number of a word is its place, from 0

-- words that open a query
abbrev pub header_words : List Word
header_words =
    meanings.Cql ∷ meanings.Input ∷ meanings.Output ∷ meanings.MatchString ∷ meanings.Variations ∷ []

-- filters of one word that are positions
abbrev pub plain_position_words : List Word
plain_position_words =
    meanings.Plain plains.Check ∷ meanings.Plain plains.Mate ∷ meanings.Plain plains.Stalemate
    ∷ meanings.Plain plains.Wtm ∷ meanings.Plain plains.Btm ∷ meanings.Plain plains.Initial
    ∷ meanings.Plain plains.Terminal ∷ meanings.Plain plains.Mainline ∷ meanings.Plain plains.Variation
    ∷ meanings.Plain plains.HasComment ∷ []

-- filters of one word that are numbers
abbrev pub plain_number_words : List Word
plain_number_words =
    meanings.Plain plains.Ply ∷ meanings.Plain plains.MoveNumber ∷ meanings.Plain plains.Depth
    ∷ meanings.Plain plains.Year ∷ []

-- the result and the tags of a game
abbrev pub tag_words : List Word
tag_words =
    meanings.Result ∷ meanings.Player ∷ meanings.Event ∷ meanings.Site ∷ meanings.Elo ∷ meanings.White ∷ meanings.Black
    ∷ []

abbrev pub logic_words : List Word
logic_words =
    meanings.Unary unaries.Not ∷ meanings.And ∷ meanings.Or ∷ meanings.If ∷ meanings.Then ∷ meanings.Else
    ∷ meanings.Square ∷ meanings.All ∷ meanings.In ∷ []

-- steps in the tree of a game
abbrev pub tree_words : List Word
tree_words =
    meanings.Unary unaries.Find ∷ meanings.Unary unaries.Child ∷ meanings.Unary unaries.Parent ∷ meanings.Line
    ∷ meanings.Primary ∷ []

abbrev pub set_words : List Word
set_words =
    meanings.Attacks ∷ meanings.AttackedBy ∷ meanings.Between ∷ meanings.Unary unaries.Light
    ∷ meanings.Unary unaries.Dark ∷ []

abbrev pub direction_words : List Word
direction_words =
    meanings.Way ways.Up ∷ meanings.Way ways.Down ∷ meanings.Way ways.Left ∷ meanings.Way ways.Right
    ∷ meanings.Way ways.Northeast ∷ meanings.Way ways.Northwest ∷ meanings.Way ways.Southeast
    ∷ meanings.Way ways.Southwest ∷ meanings.Way ways.Diagonal ∷ meanings.Way ways.Orthogonal
    ∷ meanings.Way ways.AnyDirection ∷ []

abbrev pub number_words : List Word
number_words =
    meanings.Unary unaries.Power ∷ meanings.Max ∷ meanings.Min ∷ []

-- families of mappings
abbrev pub family_words : List Word
family_words =
    meanings.Family families.Flip ∷ meanings.Family families.Rotate90 ∷ meanings.Family families.FlipVertical
    ∷ meanings.Family families.FlipHorizontal ∷ meanings.Family families.FlipColor
    ∷ meanings.Family families.Shift ∷ meanings.Family families.ShiftHorizontal
    ∷ meanings.Family families.ShiftVertical ∷ []

-- filters that occur only at the top of a query
abbrev pub top_words : List Word
top_words =
    meanings.Sort ∷ meanings.Comment ∷ []

-- the move that led to a position
abbrev pub move_words : List Word
move_words =
    meanings.Move ∷ meanings.From ∷ meanings.To ∷ meanings.Capture ∷ meanings.Promote ∷ []

-- all words
abbrev pub words_in_order : List Word
words_in_order =
    header_words ++ plain_position_words ++ plain_number_words ++ tag_words ++ logic_words ++ tree_words ++ set_words
    ++ direction_words ++ number_words ++ family_words ++ top_words ++ move_words

abbrev pub words : List (List ℕ)
words = map word_text words_in_order

-- the word of a number
unfoldable pub word_of : ℕ → Option Word
word_of number = slice_get words_in_order number

-- all marks; the number of a mark is its place in this list, from 0
abbrev pub marks_in_order : List Sign
marks_in_order =
    signs.Arrow ∷ signs.BackArrow ∷ signs.AtMost ∷ signs.AtLeast ∷ signs.Equal ∷ signs.Less ∷ signs.Greater ∷ signs.Plus
    ∷ signs.Minus ∷ signs.Star ∷ signs.Question ∷ signs.Hash ∷ signs.Bar ∷ signs.Ampersand ∷ signs.Tilde ∷ signs.Open
    ∷ signs.Close ∷ signs.OpenBrace ∷ signs.CloseBrace ∷ signs.Comma ∷ []

abbrev pub marks : List (List ℕ)
marks = map sign_text marks_in_order

-- the mark of a number
unfoldable pub sign_of : ℕ → Option Sign
sign_of number = slice_get marks_in_order number

-- reserved names, which are no words of this language and which a query may not use
abbrev pub reserved_names : List (List ℕ)
reserved_names = codes "echo" ∷ codes "loop" ∷ codes "while" ∷ codes "function" ∷ codes "persistent" ∷ codes "dictionary"
    ∷ codes "string" ∷ codes "message" ∷ codes "ray" ∷ codes "pin" ∷ codes "xray" ∷ codes "rotate45"
    ∷ codes "virtualmainline" ∷ codes "makesquare" ∷ codes "colortype" ∷ codes "type" ∷ codes "piece" ∷ codes "distance"
    ∷ codes "legal" ∷ codes "pseudolegal" ∷ codes "passedpawns" ∷ codes "isolatedpawns" ∷ codes "silent" ∷ codes "quiet"
    ∷ codes "gamenumber" ∷ codes "nestban" ∷ codes "singlecolor" ∷ codes "lastposition" ∷ codes "firstmatch" ∷ []

-- the place of a text in a table, or none if it isn't in the table
abbrev pub place_of : List ℕ → List (List ℕ) → Option ℕ
place_of text table = position (λ entry. bytes_eq entry text) table

-- the letters of men in order: bit k of a set of men is the man of letter k, `_` is the empty square
abbrev pub man_letters : List ℕ
man_letters = codes "KQRBNPkqrbnp_"
