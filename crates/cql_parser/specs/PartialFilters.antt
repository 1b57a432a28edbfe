-- The tree of a rule's parts, part by part.
use Rattle.std.specs.Prelude.{◌≡◌, ℕ, ◌==◌, Bool, true, false, List, [], Option, None, Some, fold, codes}
use Rattle.cql_syntax.specs.Extents.{path_length}
use Rattle.cql_syntax.specs.Words.{word_of, sign_of}
use Rattle.cql_syntax.specs.Trees.{FilterTree, filter_at, FormTree, designator, number, name, plain, tagged, outcome, elo, unary, direction, chain, sum_of, pair, if_, square, line, played, transform, sort, comment, FilterTrees, no_filters, more_filters, with_filter, no_terms, more_terms, with_term, LineTree, path, PartTrees, no_parts, with_part, BodyTree, atom, group, move_of, WrittenTree, left_out, written, QueryTree}
use Rattle.cql_syntax.specs.declared.extents.Extent.{Extent}
use Rattle.cql_syntax.specs.declared.extents.Extent.TheVariants.{Any, Within}
use Rattle.cql_syntax.specs.declared.leaves.Field.{Field}
use Rattle.cql_syntax.specs.declared.leaves.Field.TheVariants as fields
use Rattle.cql_syntax.specs.declared.leaves.Mark.{Mark}
use Rattle.cql_syntax.specs.declared.leaves.Mark.TheVariants as marks
use Rattle.cql_syntax.specs.declared.leaves.Of.{Of}
use Rattle.cql_syntax.specs.declared.leaves.Of.TheVariants as sides
use Rattle.cql_syntax.specs.declared.leaves.Outcome.{Outcome}
use Rattle.cql_syntax.specs.declared.leaves.Outcome.TheVariants as outcomes
use Rattle.cql_syntax.specs.declared.leaves.Pair.TheVariants as pairs
use Rattle.cql_syntax.specs.declared.leaves.Unary.{Unary}
use Rattle.cql_syntax.specs.declared.leaves.Unary.TheVariants as unaries
use Rattle.cql_syntax.specs.declared.token.QueryToken.{QueryToken}
use Rattle.cql_syntax.specs.declared.token.QueryTokenKind.{QueryTokenKind}
use Rattle.cql_syntax.specs.declared.token.QueryTokenKind.TheVariants as tokens
use Rattle.cql_syntax.specs.declared.words.Sign.{Sign}
use Rattle.cql_syntax.specs.declared.words.Sign.TheVariants as signs
use Rattle.cql_syntax.specs.declared.words.Word.{Word}
use Rattle.cql_syntax.specs.declared.words.Word.TheVariants as meanings
use Rattle.cql_parser.specs.declared.production.Production.{Production}
use Rattle.cql_parser.specs.declared.production.Production.TheVariants as productions
use Rattle.cql_parser.specs.declared.rule_state.RuleState.{RuleState}
use Rattle.cql_parser.specs.declared.rule_state.RuleState.TheVariants as places
use Rattle.cql_parser.specs.declared.role.InfixOperator.{InfixOperator}
use Rattle.cql_parser.specs.declared.role.InfixOperator.TheVariants.{Chained, Added, Paired}
use Rattle.cql_parser.specs.Productions.{production}
use Rattle.cql_parser.specs.RuleStates.{infix_level}
use Rattle.cql_parser.specs.Grammar.{Phrase, made, joined, Parts, IsGrammatical, first, add, put, end, level, Items, none, more}

-- a filter, or parts of a line in parentheses
pub data Node : Type 0 where
  a_filter : FilterTree → Node
  a_group : PartTrees → Node

-- the values of the tokens and filters along a rule so far
pub record PartialFilter : Type 0 where
  pub at : ℕ
  pub production : Production
  -- `all`, `min` or `primary` is written; then `<--` is written
  pub flag : Bool
  pub back : Bool
  pub side : Of
  pub result : Outcome
  pub text : List ℕ
  -- two numbers, and the extent of a line
  pub least : ℕ
  pub most : ℕ
  pub extent : Extent
  -- the first, second and third operand of a rule that has a slot for each, the last one, and filters in a row
  pub one : WrittenTree
  pub two : WrittenTree
  pub three : WrittenTree
  pub last : WrittenTree
  pub row : FilterTrees
  -- the parts of a line but for the last one, and the last one with its mark
  pub parts : PartTrees
  pub body : Option BodyTree
  pub mark : Mark

abbrev pub name_of : QueryTokenKind → List ℕ
name_of (tokens.Name text) = text
name_of kind = []

-- The first token of a rule, which leads to a state. A direction without numbers is of 1 to 7 steps.
abbrev pub partial_filter_of : QueryToken → RuleState → PartialFilter
partial_filter_of x place = record {
  at = x.at;
  production = production x.kind place;
  flag = false;
  back = false;
  side = sides.Either;
  result = outcomes.Unfinished;
  text = name_of x.kind;
  least = 1;
  most = 7;
  extent = Any;
  one = left_out;
  two = left_out;
  three = left_out;
  last = left_out;
  row = no_filters;
  parts = no_parts;
  body = None;
  mark = marks.Once;
}

-- all parts of a line
abbrev pub with_body : PartTrees → Option BodyTree → Mark → PartTrees
with_body cs None mark = cs
with_body cs (Some body) mark = with_part cs body mark

-- a word along a rule
abbrev pub with_word : PartialFilter → Option Word → PartialFilter
with_word d (Some meanings.White) = record d { side = sides.White }
with_word d (Some meanings.Black) = record d { side = sides.Black }
with_word d (Some meanings.All) = record d { flag = true }
with_word d (Some meanings.Min) = record d { flag = true }
with_word d (Some meanings.Primary) = record d { flag = true }
with_word d word = d

-- the next part of a line
abbrev pub next_part : PartialFilter → PartialFilter
next_part d = record d { parts = with_body d.parts d.body d.mark; body = None; mark = marks.Once }

-- a mark along a rule
abbrev pub with_sign : PartialFilter → Option Sign → PartialFilter
with_sign d (Some signs.Arrow) = next_part d
with_sign d (Some signs.BackArrow) = record (next_part d) { back = true }
with_sign d (Some signs.Star) = record d { mark = marks.Star }
with_sign d (Some signs.Plus) = record d { mark = marks.Plus }
with_sign d (Some signs.Question) = record d { mark = marks.Maybe }
with_sign d sign = d

-- the extent from one length to another, or any extent if one of them is no length of a path
abbrev pub extent_of : Option ℕ → Option ℕ → Extent
extent_of (Some a) (Some b) = Within a b
extent_of a b = Any

-- a number along a rule, by the state before it
abbrev pub with_number : PartialFilter → ℕ → RuleState → PartialFilter
with_number d n places.OneNumber = record d { most = n }
with_number d n places.LineMost = record d { most = n; extent = extent_of (path_length d.least) (path_length n) }
with_number d n (places.Count g b) = record d { least = n; most = n; mark = marks.Times n n }
with_number d n (places.UpTo g b) = record d { most = n; mark = marks.Times d.least n }
with_number d n place = record d { least = n; most = n }

-- a token along a rule, by the state before it
abbrev pub say : PartialFilter → QueryTokenKind → RuleState → PartialFilter
say d (tokens.Word w) place = with_word d (word_of w)
say d (tokens.Mark m) place = with_sign d (sign_of m)
say d (tokens.Number n) place = with_number d n place
say d (tokens.Text text) place = record d { text = text }
say d (tokens.Name text) place = record d { text = text }
say d (tokens.Outcome o) place = record d { result = o }
say d kind place = d

abbrev pub body_of : Node → BodyTree
body_of (a_filter f) = atom f
body_of (a_group cs) = group cs

-- the filter of a node; a group occurs only in a line
abbrev pub filter_of : Node → FilterTree
filter_of (a_filter f) = f
filter_of (a_group cs) = filter_at 0 (number 0)

-- a filter along a rule, by the state before it
abbrev pub take : PartialFilter → Node → RuleState → PartialFilter
take d node places.Condition = record d { one = written (filter_of node) }
take d node places.SquaresDue = record d { one = written (filter_of node) }
take d node places.BetweenFirst = record d { one = written (filter_of node) }
take d node places.Origin = record d { one = written (filter_of node) }
take d node places.Consequence = record d { two = written (filter_of node) }
take d node places.BetweenSecond = record d { two = written (filter_of node) }
take d node places.Goal = record d { two = written (filter_of node) }
take d node places.Taken = record d { three = written (filter_of node) }
take d node places.ListFirst = record d { row = with_filter d.row (filter_of node) }
take d node places.ListSecond = record d { row = with_filter d.row (filter_of node) }
take d node places.ListMore = record d { row = with_filter d.row (filter_of node) }
take d node places.Braces = record d { row = with_filter d.row (filter_of node) }
take d node places.BracesMore = record d { row = with_filter d.row (filter_of node) }
take d node (places.Part g b) = record d { body = Some (body_of node) }
take d node place = record d { last = written (filter_of node) }

-- a rule at its end has the filters that its form needs
abbrev pub need : WrittenTree → FilterTree
need left_out = filter_at 0 (number 0)
need (written f) = f

abbrev pub field_of : Field → Of → Field
field_of (fields.Player _) side = fields.Player side
field_of field side = field

abbrev pub search_of : Unary → Bool → Unary
search_of unaries.Find true = unaries.FindUp
search_of u back = u

abbrev pub form : FilterTree → FormTree
form (filter_at at f) = f

abbrev pub line_of : PartialFilter → LineTree
line_of d = path d.back d.flag d.extent (with_body d.parts d.body d.mark)

abbrev pub form_of : PartialFilter → Production → FormTree
form_of d (productions.Designator squares) = designator squares
form_of d (productions.Number n) = number n
form_of d productions.Name = name d.text
form_of d (productions.Plain word) = plain word
form_of d productions.Outcome = outcome d.result
form_of d (productions.Tagged field) = tagged (field_of field d.side) d.text
form_of d productions.Elo = elo d.side
form_of d productions.Comment = comment d.text
form_of d (productions.Unary u) = unary (search_of u d.back) (need d.last)
form_of d (productions.Direction way) = direction way d.least d.most (need d.last)
form_of d (productions.Family family) = transform family (need d.last)
form_of d productions.If = if_ (need d.one) (need d.two) (need d.last)
form_of d productions.Square = square d.flag d.text (need d.one) (need d.last)
form_of d productions.Sort = sort d.flag d.text (need d.last)
form_of d productions.Between = pair pairs.Between (need d.one) (need d.two)
form_of d (productions.List c) = chain c d.row
form_of d productions.Parens = form (need d.last)
form_of d productions.Line = line (line_of d)
form_of d productions.Group = number 0
form_of d productions.Move = played (move_of d.one d.two d.three d.last)

abbrev pub node_by : PartialFilter → Production → Node
node_by d productions.Group = a_group (with_body d.parts d.body d.mark)
node_by d m = a_filter (filter_at d.at (form_of d m))

-- the node of a rule at its end
abbrev pub node_of : PartialFilter → Node
node_of d = node_by d d.production

-- a filter and one more part, after a token: in a row that goes on, or in a new one
abbrev pub new_infix : FilterTree → InfixOperator → FilterTree → FormTree
new_infix f (Chained c) g = chain c (more_filters f (more_filters g no_filters))
new_infix f (Added minus) g = sum_of (more_terms false f (more_terms minus g no_terms))
new_infix f (Paired p) g = pair p f g

abbrev pub subtracts : InfixOperator → Bool
subtracts (Chained c) = false
subtracts (Added minus) = minus
subtracts (Paired p) = false

abbrev pub longer_infix : FormTree → FilterTree → InfixOperator → FilterTree → FormTree
longer_infix (chain c fs) f j g = chain c (with_filter fs g)
longer_infix (sum_of ts) f j g = sum_of (with_term ts (subtracts j) g)
longer_infix form f j g = new_infix f j g

abbrev pub place_of : FilterTree → ℕ
place_of (filter_at at f) = at

abbrev pub infix_of : Bool → FilterTree → InfixOperator → FilterTree → FilterTree
infix_of true f j g = filter_at (place_of f) (longer_infix (form f) f j g)
infix_of false f j g = filter_at (place_of f) (new_infix f j g)

-- two filters and a token between them; the first is of a level
abbrev pub infix_node : ℕ → Node → InfixOperator → Node → Node
infix_node level p j q = a_filter (infix_of (level == infix_level j) (filter_of p) j (filter_of q))

abbrev mutual
  -- the tree of a filter as it is written
  pub node : Phrase → Node
  node (made ps) = node_of (draft ps)
  node (joined p x j q) = infix_node (level p) (node p) j (node q)

  pub draft : Parts → PartialFilter
  draft (first x s) = partial_filter_of x s
  draft (add ps x s) = say (draft ps) x.kind (end ps)
  draft (put ps p s) = take (draft ps) (node p) (end ps)

abbrev pub trees : Items → FilterTrees
trees none = no_filters
trees (more ps p) = with_filter (trees ps) (filter_of (node p))

-- the head of a query: its parameters, and the byte of a `matchstring` whose text is due
pub record Opening : Type 0 where
  pub variations : Bool
  pub match_at : ℕ
  pub match_text : List ℕ
  pub pending : Option ℕ

-- without `matchstring` it is `CQL`
abbrev pub no_opening : Opening
no_opening = record { variations = false; match_at = 0; match_text = codes "CQL"; pending = None }

abbrev pub add_word : Opening → ℕ → Option Word → Opening
add_word o at (Some meanings.Variations) = record o { variations = true }
add_word o at (Some meanings.MatchString) = record o { pending = Some at }
add_word o at word = o

abbrev pub add_text : Opening → List ℕ → Option ℕ → Opening
add_text o text (Some at) = record o { match_at = at; match_text = text; pending = None }
add_text o text None = o

-- a token of the head
abbrev pub add_token : Opening → QueryToken → QueryTokenKind → Opening
add_token o x (tokens.Word w) = add_word o x.at (word_of w)
add_token o x (tokens.Text text) = add_text o text o.pending
add_token o x kind = o

abbrev pub opening : List QueryToken → Opening
opening ts = fold (λ o x. add_token o x x.kind) no_opening ts

-- the tree of a query as it is written
abbrev pub query_of : Opening → Items → QueryTree
query_of o ps = record { variations = o.variations; match_at = o.match_at; match_text = o.match_text; items = trees ps }

-- the tokens spell a query, and no more counted rules than a limit are open at a place
pub record Spells (limit : ℕ) (ts : List QueryToken) (q : QueryTree) : Type 0 where
  pub as_written : IsGrammatical limit ts
  pub is : query_of (opening as_written.opening) as_written.items ≡ q
