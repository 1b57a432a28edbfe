-- The states of the grammar's rules, and the tokens and filters that may follow each.
--
-- A rule is written as the states that one passes along it. In a state a token may go on with the rule, a filter may be due, or the rule
-- may be at its end.
--
-- The levels of filters, from those that bind least, are: 0 or, 1 and, 2 pre, 3 comparison, 4 sum, 5 product. Those that bind more are:
-- 6 union, 7 intersection, 8 pair, 9 unary, 10 primary.
use Rattle.std.specs.Prelude.{ℕ, Bool, true, false, Option, None, Some, nat_le, nat_lt, ◌&&◌}
use Rattle.cql_syntax.specs.Limits.{longest_path}
use Rattle.cql_syntax.specs.Words.{word_of, sign_of}
use Rattle.cql_syntax.specs.declared.leaves.Chain.{Chain}
use Rattle.cql_syntax.specs.declared.leaves.Chain.TheVariants as chains
use Rattle.cql_syntax.specs.declared.leaves.Pair.{Pair}
use Rattle.cql_syntax.specs.declared.leaves.Pair.TheVariants as pairs
use Rattle.cql_syntax.specs.declared.leaves.Unary.{Unary}
use Rattle.cql_syntax.specs.declared.leaves.Unary.TheVariants as unaries
use Rattle.cql_syntax.specs.declared.token.QueryTokenKind.{QueryTokenKind}
use Rattle.cql_syntax.specs.declared.token.QueryTokenKind.TheVariants as tokens
use Rattle.cql_syntax.specs.declared.words.Sign.{Sign as OneSign}
use Rattle.cql_syntax.specs.declared.words.Sign.TheVariants as signs
use Rattle.cql_syntax.specs.declared.words.Word.{Word as OneWord}
use Rattle.cql_syntax.specs.declared.words.Word.TheVariants as meanings
use Rattle.cql_parser.specs.declared.rule_state.OperandContext.{OperandContext}
use Rattle.cql_parser.specs.declared.rule_state.OperandContext.TheVariants.{Within, NoNumber, LinePart, NoOperand}
use Rattle.cql_parser.specs.declared.rule_state.HeadState.{HeadState}
use Rattle.cql_parser.specs.declared.rule_state.HeadState.TheVariants.{Start, ListDue, Params, FileDue, MatchDue, Over}
use Rattle.cql_parser.specs.declared.rule_state.RuleState.{RuleState}
use Rattle.cql_parser.specs.declared.rule_state.RuleState.TheVariants.{Leaf, ResultDue, PlayerDue, TextDue, EloDue, Pre, PreDone, FindDue, Condition, ThenDue, Consequence, ElseDue, AllDue, NameDue, InDue, SquaresDue, MinDue, SortText, Tight, TightDone, Direction, OneNumber, TwoNumbers, BetweenOpen, BetweenFirst, BetweenSecond, BetweenClose, ListOpen, ListFirst, ListSecond, ListMore, Parens, ParensClose, Braces, BracesMore, Closed, LineStart, LineExtent, LineMost, LineArrow, Move, Origin, MovedFrom, Goal, MovedTo, Taken, MovedTaking, Promoted, Part, Bare, Count, Counted, UpTo, UpEnd, Marked}
use Rattle.cql_parser.specs.declared.role.InfixOperator.{InfixOperator}
use Rattle.cql_parser.specs.declared.role.InfixOperator.TheVariants.{Chained, Added, Paired}
use Rattle.cql_parser.specs.declared.role.Role.{Role}
use Rattle.cql_parser.specs.declared.role.Role.TheVariants.{Word, Sign, Number, Name, Text, FileName, Outcome, Designator, End, Other}

-- the role of a word or mark, by its number
abbrev pub word_role : Option OneWord → Role
word_role (Some word) = Word word
word_role None = Other

abbrev pub sign_role : Option OneSign → Role
sign_role (Some sign) = Sign sign
sign_role None = Other

-- the role of a token; a number has a flag: true if it may be the length of a path
unfoldable pub role : QueryTokenKind → Role
role (tokens.Word number) = word_role (word_of number)
role (tokens.Reserved name) = Other
role (tokens.Name name) = Name
role (tokens.Squares designator) = Designator
role (tokens.Number number) = Number (nat_le 1 number && nat_le number longest_path)
role (tokens.Text text) = Text
role (tokens.FileName name) = FileName
role (tokens.Outcome outcome) = Outcome
role (tokens.Mark number) = sign_role (sign_of number)
role tokens.End = End

-- The head of a query, `cql ( {param} )`. A parameter is `input` or `output` and the name of a file or a text, `matchstring` and a text, or
-- `variations`.
unfoldable pub heads : HeadState → Role → Option HeadState
heads Start (Word meanings.Cql) = Some ListDue
heads ListDue (Sign signs.Open) = Some Params
heads Params (Word meanings.Input) = Some FileDue
heads Params (Word meanings.Output) = Some FileDue
heads Params (Word meanings.MatchString) = Some MatchDue
heads Params (Word meanings.Variations) = Some Params
heads Params (Sign signs.Close) = Some Over
heads FileDue FileName = Some Params
heads FileDue Text = Some Params
heads MatchDue Text = Some Params
heads heading role = None

-- the state after a word before one filter
abbrev pub unary_state : Unary → RuleState
unary_state unaries.Not = Pre
unary_state unaries.Complement = Tight
unary_state unaries.Count = Tight
unary_state unaries.Power = Tight
unary_state unaries.Light = Tight
unary_state unaries.Dark = Tight
unary_state unaries.Find = FindDue
unary_state unaries.FindUp = Pre
unary_state unaries.Child = Pre
unary_state unaries.Parent = Pre

-- the state after the first token of a filter, by the token
abbrev pub begin : Role → Option RuleState
begin Designator = Some Leaf
begin (Number allowed) = Some Leaf
begin Name = Some Leaf
begin (Word (meanings.Plain word)) = Some Leaf
begin (Word (meanings.Unary u)) = Some (unary_state u)
begin (Word (meanings.Way way)) = Some Direction
begin (Word (meanings.Family family)) = Some Pre
begin (Word meanings.If) = Some Condition
begin (Word meanings.Square) = Some AllDue
begin (Word meanings.Line) = Some LineStart
begin (Word meanings.Move) = Some Move
begin (Word meanings.Sort) = Some MinDue
begin (Word meanings.Result) = Some ResultDue
begin (Word meanings.Player) = Some PlayerDue
begin (Word meanings.Event) = Some TextDue
begin (Word meanings.Site) = Some TextDue
begin (Word meanings.Elo) = Some EloDue
begin (Word meanings.Comment) = Some TextDue
begin (Word meanings.Between) = Some BetweenOpen
begin (Word meanings.Max) = Some ListOpen
begin (Word meanings.Min) = Some ListOpen
begin (Sign signs.Tilde) = Some Tight
begin (Sign signs.Hash) = Some Tight
begin (Sign signs.Open) = Some Parens
begin (Sign signs.OpenBrace) = Some Braces
begin role = None

-- The same for a filter that is due. A parenthesis opens a group if a part of a line is due, and the group goes the way of the line. The
-- part of a direction with two numbers begins with no number.
unfoldable pub opens : OperandContext → Role → Option RuleState
opens NoOperand role = None
opens NoNumber (Number allowed) = None
opens NoNumber role = begin role
opens (LinePart back) (Sign signs.Open) = Some (Part true back)
opens (LinePart back) role = begin role
opens Within role = begin role

-- the arrow of a line that goes this way
abbrev pub arrow_state : Bool → Bool → OneSign → Option RuleState
arrow_state group false signs.Arrow = Some (Part group false)
arrow_state group true signs.BackArrow = Some (Part group true)
arrow_state group back sign = None

-- after a part of a line: one more part after the same arrow, or the end of the group
abbrev pub part_end_state : Bool → Bool → Role → Option RuleState
part_end_state true back (Sign signs.Close) = Some Closed
part_end_state group back (Sign sign) = arrow_state group back sign
part_end_state group back role = None

-- The state after a token.
unfoldable pub goes : RuleState → Role → Option RuleState
-- `result RESULT`, `player [white|black] TEXT`, `event TEXT`, `site TEXT`, `comment TEXT`, `elo [white|black]`
goes ResultDue Outcome = Some Leaf
goes PlayerDue (Word meanings.White) = Some TextDue
goes PlayerDue (Word meanings.Black) = Some TextDue
goes PlayerDue Text = Some Leaf
goes TextDue Text = Some Leaf
goes EloDue (Word meanings.White) = Some Leaf
goes EloDue (Word meanings.Black) = Some Leaf
-- `find [<--] pre`
goes FindDue (Sign signs.BackArrow) = Some Pre
-- `if or then or else pre`
goes ThenDue (Word meanings.Then) = Some Consequence
goes ElseDue (Word meanings.Else) = Some Pre
-- `square [all] NAME in union pre`
goes AllDue (Word meanings.All) = Some NameDue
goes AllDue Name = Some InDue
goes NameDue Name = Some InDue
goes InDue (Word meanings.In) = Some SquaresDue
-- `sort [min] TEXT pre`
goes MinDue (Word meanings.Min) = Some SortText
goes MinDue Text = Some Pre
goes SortText Text = Some Pre
-- `DIRECTION [NUMBER [NUMBER]] nonum`
goes Direction (Number allowed) = Some OneNumber
goes OneNumber (Number allowed) = Some TwoNumbers
-- `between ( or or )`, `max ( or or {or} )`, `( or )`, `{ item {item} }`
goes BetweenOpen (Sign signs.Open) = Some BetweenFirst
goes BetweenClose (Sign signs.Close) = Some Closed
goes ListOpen (Sign signs.Open) = Some ListFirst
goes ListMore (Sign signs.Close) = Some Closed
goes ParensClose (Sign signs.Close) = Some Closed
goes BracesMore (Sign signs.CloseBrace) = Some Closed
-- `line [primary] [EXTENT EXTENT] ARROW con {ARROW con}`
goes LineStart (Word meanings.Primary) = Some LineExtent
goes LineStart (Number true) = Some LineMost
goes LineStart (Sign signs.Arrow) = Some (Part false false)
goes LineStart (Sign signs.BackArrow) = Some (Part false true)
goes LineExtent (Number true) = Some LineMost
goes LineExtent (Sign signs.Arrow) = Some (Part false false)
goes LineExtent (Sign signs.BackArrow) = Some (Part false true)
goes LineMost (Number true) = Some LineArrow
goes LineArrow (Sign signs.Arrow) = Some (Part false false)
goes LineArrow (Sign signs.BackArrow) = Some (Part false true)
-- `move [from unary] [to unary] [capture unary] [promote unary]`
goes Move (Word meanings.From) = Some Origin
goes Move (Word meanings.To) = Some Goal
goes Move (Word meanings.Capture) = Some Taken
goes Move (Word meanings.Promote) = Some Promoted
goes MovedFrom (Word meanings.To) = Some Goal
goes MovedFrom (Word meanings.Capture) = Some Taken
goes MovedFrom (Word meanings.Promote) = Some Promoted
goes MovedTo (Word meanings.Capture) = Some Taken
goes MovedTo (Word meanings.Promote) = Some Promoted
goes MovedTaking (Word meanings.Promote) = Some Promoted
-- the mark of a part: `*`, `+`, `?` or `{ NUMBER [, NUMBER] }`
goes (Bare group back) (Sign signs.Star) = Some (Marked group back)
goes (Bare group back) (Sign signs.Plus) = Some (Marked group back)
goes (Bare group back) (Sign signs.Question) = Some (Marked group back)
goes (Bare group back) (Sign signs.OpenBrace) = Some (Count group back)
goes (Count group back) (Number allowed) = Some (Counted group back)
goes (Counted group back) (Sign signs.CloseBrace) = Some (Marked group back)
goes (Counted group back) (Sign signs.Comma) = Some (UpTo group back)
goes (UpTo group back) (Number allowed) = Some (UpEnd group back)
goes (UpEnd group back) (Sign signs.CloseBrace) = Some (Marked group back)
-- a part of a line or group, with its mark or without one
goes (Bare group back) role = part_end_state group back role
goes (Marked group back) role = part_end_state group back role
goes place role = None

-- The properties of a state. If a filter is due in it: the context of the filter, its least level, and the state after it. Then a flag:
-- true if the rule may be at its end. If the first token of a filter leads to it: the level of that filter, and the depth that its parts
-- add.
pub record StateProperties : Type 0 where
  pub context : OperandContext
  pub least : ℕ
  pub next : RuleState
  pub whole : Bool
  pub level : ℕ
  pub depth : ℕ

-- a filter is due, or a token alone, or the rule may be at its end
abbrev pub filter_due : OperandContext → ℕ → RuleState → StateProperties
filter_due context least next = record { context = context; least = least; next = next; whole = false; level = 10; depth = 0 }

abbrev pub token_due : StateProperties
token_due = filter_due NoOperand 10 Closed

abbrev pub at_end : StateProperties
at_end = record token_due { whole = true }

-- the same after the first token of a filter with parts
abbrev pub begun : ℕ → StateProperties → StateProperties
begun level spot = record spot { level = level; depth = 1 }

unfoldable pub spot : RuleState → StateProperties
spot Pre = begun 2 (filter_due Within 2 PreDone)
spot FindDue = begun 2 (filter_due Within 2 PreDone)
spot Condition = begun 2 (filter_due Within 0 ThenDue)
spot Consequence = filter_due Within 0 ElseDue
spot AllDue = begun 2 token_due
spot SquaresDue = filter_due Within 6 Pre
spot MinDue = begun 2 token_due
spot Tight = begun 9 (filter_due Within 9 TightDone)
spot Direction = begun 9 (filter_due Within 9 TightDone)
spot OneNumber = filter_due Within 9 TightDone
spot TwoNumbers = filter_due NoNumber 9 TightDone
spot BetweenOpen = begun 10 token_due
spot BetweenFirst = filter_due Within 0 BetweenSecond
spot BetweenSecond = filter_due Within 0 BetweenClose
spot ListOpen = begun 10 token_due
spot ListFirst = filter_due Within 0 ListSecond
spot ListSecond = filter_due Within 0 ListMore
spot ListMore = filter_due Within 0 ListMore
spot Parens = begun 10 (filter_due Within 0 ParensClose)
spot Braces = begun 10 (filter_due Within 0 BracesMore)
spot BracesMore = filter_due Within 0 BracesMore
spot LineStart = begun 2 token_due
spot (Part group back) = begun 10 (filter_due (LinePart back) 10 (Bare group back))
spot Move = begun 2 at_end
spot Origin = filter_due Within 9 MovedFrom
spot MovedFrom = at_end
spot Goal = filter_due Within 9 MovedTo
spot MovedTo = at_end
spot Taken = filter_due Within 9 MovedTaking
spot MovedTaking = at_end
spot Promoted = filter_due Within 9 PreDone
spot Leaf = at_end
spot EloDue = at_end
spot PreDone = at_end
spot TightDone = at_end
spot Closed = at_end
spot (Bare false back) = at_end
spot (Marked false back) = at_end
spot place = token_due

unfoldable pub context : RuleState → OperandContext
context place = (spot place).context

unfoldable pub least : RuleState → ℕ
least place = (spot place).least

unfoldable pub next : RuleState → RuleState
next place = (spot place).next

unfoldable pub whole : RuleState → Bool
whole place = (spot place).whole

unfoldable pub level_of : RuleState → ℕ
level_of place = (spot place).level

unfoldable pub depth_of : RuleState → ℕ
depth_of place = (spot place).depth

-- the operation of a token between two filters
unfoldable pub joint : Role → Option InfixOperator
joint (Word meanings.Or) = Some (Chained chains.Or)
joint (Word meanings.And) = Some (Chained chains.And)
joint (Word meanings.Attacks) = Some (Paired pairs.Attacks)
joint (Word meanings.AttackedBy) = Some (Paired pairs.AttackedBy)
joint (Sign signs.Less) = Some (Paired pairs.Less)
joint (Sign signs.AtMost) = Some (Paired pairs.AtMost)
joint (Sign signs.Equal) = Some (Paired pairs.Equal)
joint (Sign signs.AtLeast) = Some (Paired pairs.AtLeast)
joint (Sign signs.Greater) = Some (Paired pairs.Greater)
joint (Sign signs.Plus) = Some (Added false)
joint (Sign signs.Minus) = Some (Added true)
joint (Sign signs.Star) = Some (Chained chains.Product)
joint (Sign signs.Bar) = Some (Chained chains.Union)
joint (Sign signs.Ampersand) = Some (Chained chains.Intersect)
joint role = None

abbrev pub chain_level : Chain → ℕ
chain_level chains.Or = 0
chain_level chains.And = 1
chain_level chains.All = 9
chain_level chains.Union = 6
chain_level chains.Intersect = 7
chain_level chains.Product = 5
chain_level chains.Max = 9
chain_level chains.Min = 9

abbrev pub pair_level : Pair → ℕ
pair_level pairs.Attacks = 8
pair_level pairs.AttackedBy = 8
pair_level pairs.Between = 9
pair_level pairs.Less = 3
pair_level pairs.AtMost = 3
pair_level pairs.Equal = 3
pair_level pairs.AtLeast = 3
pair_level pairs.Greater = 3

-- the level of a row of filters with such tokens between them
unfoldable pub infix_level : InfixOperator → ℕ
infix_level (Chained c) = chain_level c
infix_level (Added minus) = 4
infix_level (Paired p) = pair_level p

-- True if a filter of a level may come before the token. A row goes on at its own level, a pair doesn't.
unfoldable pub takes : InfixOperator → ℕ → Bool
takes (Chained c) level = nat_le (chain_level c) level
takes (Added minus) level = nat_le 4 level
takes (Paired p) level = nat_lt (pair_level p) level

-- true if a token joins filters to a row of at least this level
abbrev pub joins : ℕ → Role → Bool
joins level role = elim (joint role) [ Some j ↦ nat_le level (infix_level j) | None ↦ false ]
