-- The text of a filter: names and numbers as they are written, and every other form in parentheses, after its word.
use Rattle.std.specs.Prelude.{ℕ, zero, suc, ◌/◌, ◌%◌, ◌==◌, Bool, true, false, List, [], ◌∷◌, ◌++◌, get_or, Option, None, Some, unwrap_or, codes, if◌then◌else◌}
use Rattle.std.specs.Fmt.{decimal}
use Rattle.std.specs.List.{concat}
use Rattle.cql_syntax.specs.Trees.{FilterTree, filter_at, FormTree, designator, number, name, plain, tagged, outcome, elo, unary, direction, chain, sum_of, pair, if_, square, line, played, transform, sort, comment, any, FilterTrees, no_filters, more_filters, TermTrees, no_terms, more_terms, LineTree, path, PlayedTree, move_of, WrittenTree, left_out, written, PartTrees, no_parts, more_parts, BodyTree, atom, group}
use Rattle.cql_syntax.specs.Words.{word_text, plain_text, unary_text, way_text, family_text, sign_text, man_letters}
use Rattle.cql_syntax.specs.declared.extents.Extent.{Extent}
use Rattle.cql_syntax.specs.declared.extents.Extent.TheVariants.{Any as AnyLength, Within}
use Rattle.cql_syntax.specs.declared.leaves.Chain.{Chain}
use Rattle.cql_syntax.specs.declared.leaves.Chain.TheVariants.{Or, And, All, Union, Intersect, Product, Max, Min}
use Rattle.cql_syntax.specs.declared.leaves.Designator.{Designator}
use Rattle.cql_syntax.specs.declared.leaves.Field.{Field}
use Rattle.cql_syntax.specs.declared.leaves.Field.TheVariants.{Player, Event, Site}
use Rattle.cql_syntax.specs.declared.leaves.Kind.{Kind}
use Rattle.cql_syntax.specs.declared.leaves.Kind.TheVariants.{Position, Set, Number}
use Rattle.cql_syntax.specs.declared.leaves.Mark.{Mark}
use Rattle.cql_syntax.specs.declared.leaves.Mark.TheVariants.{Once, Star, Plus, Maybe, Times}
use Rattle.cql_syntax.specs.declared.leaves.Of.{Of}
use Rattle.cql_syntax.specs.declared.leaves.Of.TheVariants.{Either, White, Black}
use Rattle.cql_syntax.specs.declared.leaves.Outcome.{Outcome}
use Rattle.cql_syntax.specs.declared.leaves.Outcome.TheVariants.{White as WhiteWins, Black as BlackWins, Draw, Unfinished}
use Rattle.cql_syntax.specs.declared.leaves.Pair.{Pair}
use Rattle.cql_syntax.specs.declared.leaves.Pair.TheVariants.{Attacks, AttackedBy, Between, Less, AtMost, Equal, AtLeast, Greater}
use Rattle.cql_syntax.specs.declared.words.Sign.TheVariants as signs
use Rattle.cql_syntax.specs.declared.words.Word.{Word}
use Rattle.cql_syntax.specs.declared.words.Word.TheVariants as meanings

-- texts, each after a mark
abbrev pub each_after : List ℕ → List (List ℕ) → List ℕ
each_after mark [] = []
each_after mark (t ∷ ts) = mark ++ (t ++ each_after mark ts)

-- `(word part part)`
abbrev pub in_parens : List ℕ → List (List ℕ) → List ℕ
in_parens word parts = concat (codes "(" ∷ word ∷ each_after (codes " ") parts ∷ codes ")" ∷ [])

-- a text between quotes
abbrev pub quoted : List ℕ → List ℕ
quoted text = concat (codes "\"" ∷ text ∷ codes "\"" ∷ [])

-- words and marks

-- two words of the language
abbrev pub two_words : Word → Word → List ℕ
two_words first second = concat (word_text first ∷ codes " " ∷ word_text second ∷ [])

abbrev pub outcome_word : Outcome → List ℕ
outcome_word WhiteWins = codes "1-0"
outcome_word BlackWins = codes "0-1"
outcome_word Draw = codes "1/2-1/2"
outcome_word Unfinished = codes "*"

-- a word, and the player whose value it is
abbrev pub whose_word : Word → Of → List ℕ
whose_word word Either = word_text word
whose_word word White = two_words word meanings.White
whose_word word Black = two_words word meanings.Black

abbrev pub field_word : Field → List ℕ
field_word (Player whose) = whose_word meanings.Player whose
field_word Event = word_text meanings.Event
field_word Site = word_text meanings.Site

abbrev pub chain_word : Chain → List ℕ
chain_word Or = word_text meanings.Or
chain_word And = word_text meanings.And
chain_word All = word_text meanings.All
chain_word Union = sign_text signs.Bar
chain_word Intersect = sign_text signs.Ampersand
chain_word Product = sign_text signs.Star
chain_word Max = word_text meanings.Max
chain_word Min = word_text meanings.Min

abbrev pub pair_word : Pair → List ℕ
pair_word Attacks = word_text meanings.Attacks
pair_word AttackedBy = word_text meanings.AttackedBy
pair_word Between = word_text meanings.Between
pair_word Less = sign_text signs.Less
pair_word AtMost = sign_text signs.AtMost
pair_word Equal = sign_text signs.Equal
pair_word AtLeast = sign_text signs.AtLeast
pair_word Greater = sign_text signs.Greater

-- the words of `Any`, which are no words of the language
abbrev pub any_word : Kind → List ℕ
any_word Position = codes "any"
any_word Set = codes "union"
any_word Number = codes "greatest"

abbrev pub square_word : Bool → List ℕ
square_word true = two_words meanings.Square meanings.All
square_word false = word_text meanings.Square

abbrev pub sort_word : Bool → List ℕ
sort_word true = two_words meanings.Sort meanings.Min
sort_word false = word_text meanings.Sort

abbrev pub sign_word : Bool → List ℕ
sign_word true = sign_text signs.Minus
sign_word false = sign_text signs.Plus

abbrev pub line_word : Bool → List ℕ
line_word true = two_words meanings.Line meanings.Primary
line_word false = word_text meanings.Line

abbrev pub arrow_word : Bool → List ℕ
arrow_word true = sign_text signs.BackArrow
arrow_word false = sign_text signs.Arrow

-- designators: `[KQ]:` and then the squares

-- a digit from 0 to f
abbrev pub hexadecimal_digit : ℕ → ℕ
hexadecimal_digit n = get_or (codes "0123456789abcdef") n 0

-- the last digits of a number, so many of them
abbrev pub hexadecimal : ℕ → ℕ → List ℕ
hexadecimal zero n = []
hexadecimal (suc count) n = hexadecimal count (n / 16) ++ hexadecimal_digit (n % 16) ∷ []

abbrev pub letter_if : Bool → ℕ → List ℕ
letter_if there letter = if there then letter ∷ [] else []

-- those letters whose bits are set, the lowest bit's letter first
abbrev pub letters_of : ℕ → List ℕ → List ℕ
letters_of bits [] = []
letters_of bits (l ∷ ls) = letter_if (bits % 2 == 1) l ++ letters_of (bits / 2) ls

abbrev pub designator_text : Designator → List ℕ
designator_text d = concat (codes "[" ∷ letters_of d.men man_letters ∷ codes "]:" ∷ hexadecimal 16 d.part.squares ∷ [])

-- `{m,n}`
abbrev pub times_word : ℕ → ℕ → List ℕ
times_word least most = concat (codes "{" ∷ decimal least ∷ codes "," ∷ decimal most ∷ codes "}" ∷ [])

-- a part of a line with its mark
abbrev pub marked_text : Mark → List ℕ → List ℕ
marked_text Once text = text
marked_text Star text = in_parens (sign_text signs.Star) (text ∷ [])
marked_text Plus text = in_parens (sign_text signs.Plus) (text ∷ [])
marked_text Maybe text = in_parens (sign_text signs.Question) (text ∷ [])
marked_text (Times least most) text = in_parens (times_word least most) (text ∷ [])

-- the word of a line, its lengths if they are written, and its arrow
abbrev pub line_start : Bool → Extent → Bool → List ℕ
line_start primary AnyLength back = concat (line_word primary ∷ codes " " ∷ arrow_word back ∷ [])
line_start primary (Within least most) back =
    concat (line_word primary ∷ codes " " ∷ decimal least ∷ codes " " ∷ decimal most ∷ codes " " ∷ arrow_word back ∷ [])

-- a term after those before it; a first one that is subtracted is subtracted from 0
abbrev pub with_term_text : Option (List ℕ) → Bool → List ℕ → List ℕ
with_term_text None false text = text
with_term_text None true text = in_parens (sign_word true) (codes "0" ∷ text ∷ [])
with_term_text (Some before) minus text = in_parens (sign_word minus) (before ∷ text ∷ [])

-- a part after its word, if it is written
abbrev pub after_word : Word → Option (List ℕ) → List ℕ
after_word word None = []
after_word word (Some part) = concat (codes " " ∷ word_text word ∷ codes " " ∷ part ∷ [])

-- the filter of the move, given its parts
abbrev pub in_move : (origin goal taken promoted : Option (List ℕ)) → List ℕ
in_move origin goal taken promoted =
    concat (codes "(" ∷ word_text meanings.Move ∷ after_word meanings.From origin ∷ after_word meanings.To goal
    ∷ after_word meanings.Capture taken ∷ after_word meanings.Promote promoted ∷ codes ")" ∷ [])

-- The text of each form. A sum is pairs from the left: `a - b + c` is `(+ (- a b) c)`.
unfoldable mutual
  pub text : FilterTree → List ℕ
  text (filter_at at f) = form_text f

  pub form_text : FormTree → List ℕ
  form_text (designator d) = designator_text d
  form_text (number n) = decimal n
  form_text (name bound) = bound
  form_text (plain word) = plain_text word
  form_text (tagged field value) = in_parens (field_word field) (quoted value ∷ [])
  form_text (outcome o) = in_parens (word_text meanings.Result) (outcome_word o ∷ [])
  form_text (elo whose) = in_parens (whose_word meanings.Elo whose) []
  form_text (unary u f) = in_parens (unary_text u) (text f ∷ [])
  form_text (direction way m n f) = in_parens (way_text way) (decimal m ∷ decimal n ∷ text f ∷ [])
  form_text (chain c fs) = in_parens (chain_word c) (texts fs)
  form_text (sum_of ts) = unwrap_or (sum_after None ts) (in_parens (sign_word false) [])
  form_text (pair c f g) = in_parens (pair_word c) (text f ∷ text g ∷ [])
  form_text (if_ f g h) = in_parens (word_text meanings.If) (text f ∷ text g ∷ text h ∷ [])
  form_text (square every bound f g) = in_parens (square_word every) (bound ∷ text f ∷ text g ∷ [])
  form_text (line l) = line_text l
  form_text (played p) = played_text p
  form_text (transform t f) = in_parens (family_text t) (text f ∷ [])
  form_text (sort least title f) = in_parens (sort_word least) (quoted title ∷ text f ∷ [])
  form_text (comment note) = in_parens (word_text meanings.Comment) (quoted note ∷ [])
  form_text (any kind fs) = in_parens (any_word kind) (texts fs)

  pub texts : FilterTrees → List (List ℕ)
  texts no_filters = []
  texts (more_filters f fs) = text f ∷ texts fs

  -- the terms after the text of those before them
  pub sum_after : Option (List ℕ) → TermTrees → Option (List ℕ)
  sum_after before no_terms = before
  sum_after before (more_terms minus f ts) = sum_after (Some (with_term_text before minus (text f))) ts

  pub line_text : LineTree → List ℕ
  line_text (path back primary extent cs) = in_parens (line_start primary extent back) (part_texts cs)

  pub part_texts : PartTrees → List (List ℕ)
  part_texts no_parts = []
  part_texts (more_parts body mark cs) = marked_text mark (body_text body) ∷ part_texts cs

  pub body_text : BodyTree → List ℕ
  body_text (atom f) = text f
  body_text (group cs) = in_parens (codes "seq") (part_texts cs)

  pub played_text : PlayedTree → List ℕ
  played_text (move_of origin goal taken promoted) =
      in_move (written_text origin) (written_text goal) (written_text taken) (written_text promoted)

  pub written_text : WrittenTree → Option (List ℕ)
  written_text left_out = None
  written_text (written f) = Some (text f)

-- texts with one LF between two of them
abbrev pub on_lines : List (List ℕ) → List ℕ
on_lines [] = []
on_lines (t ∷ ts) = t ++ each_after (codes "\n") ts

-- the text of the items of a query
abbrev pub items_text : FilterTrees → List ℕ
items_text items = on_lines (texts items)
