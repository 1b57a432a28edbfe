-- The ways of bringing each rule to its end.
use Rattle.std.proofs.Common.{◌≡◌, ℕ, ◌<◌, ◌≤◌, [], ◌∷◌, Some, None, true, false, refl, arith}
use Rattle.cql_syntax.specs.Words.{word_of, sign_of}
use Rattle.cql_syntax.specs.declared.leaves.Outcome.TheVariants as outcomes
use Rattle.cql_syntax.specs.declared.leaves.Plain.TheVariants as plains
use Rattle.cql_syntax.specs.declared.token.QueryTokenKind.{QueryTokenKind}
use Rattle.cql_syntax.specs.declared.token.QueryTokenKind.TheVariants as tokens
use Rattle.cql_syntax.specs.declared.words.Sign.TheVariants as signs
use Rattle.cql_syntax.specs.declared.words.Word.TheVariants as meanings
use Rattle.cql_parser.specs.declared.rule_state.RuleState.{RuleState}
use Rattle.cql_parser.specs.declared.rule_state.RuleState.TheVariants.{Leaf, ResultDue, PlayerDue, TextDue, EloDue, Pre, PreDone, FindDue, Condition, ThenDue, Consequence, ElseDue, AllDue, NameDue, InDue, SquaresDue, MinDue, SortText, Tight, TightDone, Direction, OneNumber, TwoNumbers, BetweenOpen, BetweenFirst, BetweenSecond, BetweenClose, ListOpen, ListFirst, ListSecond, ListMore, Parens, ParensClose, Braces, BracesMore, Closed, LineStart, LineExtent, LineMost, LineArrow, Move, Origin, MovedFrom, Goal, MovedTo, Taken, MovedTaking, Promoted, Part, Bare, Count, Counted, UpTo, UpEnd, Marked}
use Rattle.cql_parser.specs.declared.role.Role.{Role}
use Rattle.cql_parser.specs.declared.role.Role.TheVariants.{Word, Sign, End}
use Rattle.cql_parser.specs.RuleStates.{role, opens, goes, context, least, next, whole, joint, joins, spot}

-- it is at its end, or goes on with a token, or with `check`
pub data Exit : Type 0 where
  ended : Exit
  by_token : QueryTokenKind → RuleState → Exit
  by_check : Exit

abbrev pub exit : RuleState → Exit
exit Leaf = ended
exit ResultDue = by_token (tokens.Outcome outcomes.Unfinished) Leaf
exit PlayerDue = by_token (tokens.Text []) Leaf
exit TextDue = by_token (tokens.Text []) Leaf
exit EloDue = ended
exit Pre = by_check
exit PreDone = ended
exit FindDue = by_check
exit Condition = by_check
exit ThenDue = by_token (tokens.Word 30) Consequence
exit Consequence = by_check
exit ElseDue = by_token (tokens.Word 31) Pre
exit AllDue = by_token (tokens.Name (120 ∷ [])) InDue
exit NameDue = by_token (tokens.Name (120 ∷ [])) InDue
exit InDue = by_token (tokens.Word 34) SquaresDue
exit SquaresDue = by_check
exit MinDue = by_token (tokens.Text []) Pre
exit SortText = by_token (tokens.Text []) Pre
exit Tight = by_check
exit TightDone = ended
exit Direction = by_check
exit OneNumber = by_check
exit TwoNumbers = by_check
exit BetweenOpen = by_token (tokens.Mark 15) BetweenFirst
exit BetweenFirst = by_check
exit BetweenSecond = by_check
exit BetweenClose = by_token (tokens.Mark 16) Closed
exit ListOpen = by_token (tokens.Mark 15) ListFirst
exit ListFirst = by_check
exit ListSecond = by_check
exit ListMore = by_token (tokens.Mark 16) Closed
exit Parens = by_check
exit ParensClose = by_token (tokens.Mark 16) Closed
exit Braces = by_check
exit BracesMore = by_token (tokens.Mark 18) Closed
exit Closed = ended
exit LineStart = by_token (tokens.Mark 0) (Part false false)
exit LineExtent = by_token (tokens.Mark 0) (Part false false)
exit LineMost = by_token (tokens.Number 1) LineArrow
exit LineArrow = by_token (tokens.Mark 0) (Part false false)
exit Move = ended
exit Origin = by_check
exit MovedFrom = ended
exit Goal = by_check
exit MovedTo = ended
exit Taken = by_check
exit MovedTaking = ended
exit Promoted = by_check
exit (Part g b) = by_check
exit (Bare true b) = by_token (tokens.Mark 16) Closed
exit (Bare false b) = ended
exit (Count g b) = by_token (tokens.Number 1) (Counted g b)
exit (Counted g b) = by_token (tokens.Mark 18) (Marked g b)
exit (UpTo g b) = by_token (tokens.Number 1) (UpEnd g b)
exit (UpEnd g b) = by_token (tokens.Mark 18) (Marked g b)
exit (Marked true b) = by_token (tokens.Mark 16) Closed
exit (Marked false b) = ended

-- the greatest number of steps to the end
abbrev pub rank : RuleState → ℕ
rank Leaf = 0
rank ResultDue = 1
rank PlayerDue = 1
rank TextDue = 1
rank EloDue = 0
rank Pre = 1
rank PreDone = 0
rank FindDue = 1
rank Condition = 5
rank ThenDue = 4
rank Consequence = 3
rank ElseDue = 2
rank AllDue = 4
rank NameDue = 4
rank InDue = 3
rank SquaresDue = 2
rank MinDue = 2
rank SortText = 2
rank Tight = 1
rank TightDone = 0
rank Direction = 1
rank OneNumber = 1
rank TwoNumbers = 1
rank BetweenOpen = 4
rank BetweenFirst = 3
rank BetweenSecond = 2
rank BetweenClose = 1
rank ListOpen = 4
rank ListFirst = 3
rank ListSecond = 2
rank ListMore = 1
rank Parens = 2
rank ParensClose = 1
rank Braces = 2
rank BracesMore = 1
rank Closed = 0
rank LineStart = 3
rank LineExtent = 3
rank LineMost = 4
rank LineArrow = 3
rank Move = 0
rank Origin = 1
rank MovedFrom = 0
rank Goal = 1
rank MovedTo = 0
rank Taken = 1
rank MovedTaking = 0
rank Promoted = 1
rank (Part g b) = 2
rank (Bare true b) = 1
rank (Bare false b) = 0
rank (Count g b) = 3
rank (Counted g b) = 2
rank (UpTo g b) = 3
rank (UpEnd g b) = 2
rank (Marked true b) = 1
rank (Marked false b) = 0

abbrev pub check : Role
check = Word (meanings.Plain plains.Check)

abbrev pub IsExit : RuleState → Exit → Type 0
IsExit s ended = whole s ≡ true
IsExit s (by_token t p) = (goes s (role t) ≡ Some p) × (rank p < rank s)
IsExit s by_check = (opens (context s) check ≡ Some Leaf) × (least s ≤ 10) × (whole s ≡ false) × (goes s check ≡ None)
    × (rank (next s) < rank s)

pub is_exit : (s : RuleState) → IsExit s (exit s)
unfolding goes opens context least next whole role word_of sign_of spot
is_exit Leaf = refl
is_exit ResultDue = (refl, omega arith)
is_exit PlayerDue = (refl, omega arith)
is_exit TextDue = (refl, omega arith)
is_exit EloDue = refl
is_exit Pre = (refl, omega arith, refl, refl, omega arith)
is_exit PreDone = refl
is_exit FindDue = (refl, omega arith, refl, refl, omega arith)
is_exit Condition = (refl, omega arith, refl, refl, omega arith)
is_exit ThenDue = (refl, omega arith)
is_exit Consequence = (refl, omega arith, refl, refl, omega arith)
is_exit ElseDue = (refl, omega arith)
is_exit AllDue = (refl, omega arith)
is_exit NameDue = (refl, omega arith)
is_exit InDue = (refl, omega arith)
is_exit SquaresDue = (refl, omega arith, refl, refl, omega arith)
is_exit MinDue = (refl, omega arith)
is_exit SortText = (refl, omega arith)
is_exit Tight = (refl, omega arith, refl, refl, omega arith)
is_exit TightDone = refl
is_exit Direction = (refl, omega arith, refl, refl, omega arith)
is_exit OneNumber = (refl, omega arith, refl, refl, omega arith)
is_exit TwoNumbers = (refl, omega arith, refl, refl, omega arith)
is_exit BetweenOpen = (refl, omega arith)
is_exit BetweenFirst = (refl, omega arith, refl, refl, omega arith)
is_exit BetweenSecond = (refl, omega arith, refl, refl, omega arith)
is_exit BetweenClose = (refl, omega arith)
is_exit ListOpen = (refl, omega arith)
is_exit ListFirst = (refl, omega arith, refl, refl, omega arith)
is_exit ListSecond = (refl, omega arith, refl, refl, omega arith)
is_exit ListMore = (refl, omega arith)
is_exit Parens = (refl, omega arith, refl, refl, omega arith)
is_exit ParensClose = (refl, omega arith)
is_exit Braces = (refl, omega arith, refl, refl, omega arith)
is_exit BracesMore = (refl, omega arith)
is_exit Closed = refl
is_exit LineStart = (refl, omega arith)
is_exit LineExtent = (refl, omega arith)
is_exit LineMost = (refl, omega arith)
is_exit LineArrow = (refl, omega arith)
is_exit Move = refl
is_exit Origin = (refl, omega arith, refl, refl, omega arith)
is_exit MovedFrom = refl
is_exit Goal = (refl, omega arith, refl, refl, omega arith)
is_exit MovedTo = refl
is_exit Taken = (refl, omega arith, refl, refl, omega arith)
is_exit MovedTaking = refl
is_exit Promoted = (refl, omega arith, refl, refl, omega arith)
is_exit (Part true b) = (refl, omega arith, refl, refl, omega arith)
is_exit (Part false b) = (refl, omega arith, refl, refl, omega arith)
is_exit (Bare true b) = (refl, omega arith)
is_exit (Bare false b) = refl
is_exit (Count true b) = (refl, omega arith)
is_exit (Count false b) = (refl, omega arith)
is_exit (Counted true b) = (refl, omega arith)
is_exit (Counted false b) = (refl, omega arith)
is_exit (UpTo true b) = (refl, omega arith)
is_exit (UpTo false b) = (refl, omega arith)
is_exit (UpEnd true b) = (refl, omega arith)
is_exit (UpEnd false b) = (refl, omega arith)
is_exit (Marked true b) = (refl, omega arith)
is_exit (Marked false b) = refl

-- tokens with which no rule goes on that is at its end
pub data Quiet : Type 0 where
  q_then : Quiet
  q_else : Quiet
  q_close : Quiet
  q_brace : Quiet
  q_check : Quiet
  q_end : Quiet

abbrev pub quiet_role : Quiet → Role
quiet_role q_then = Word meanings.Then
quiet_role q_else = Word meanings.Else
quiet_role q_close = Sign signs.Close
quiet_role q_brace = Sign signs.CloseBrace
quiet_role q_check = check
quiet_role q_end = End

pub quiet_joins : (n : ℕ) (q : Quiet) → joins n (quiet_role q) ≡ false
unfolding joint
quiet_joins n q_then = refl
quiet_joins n q_else = refl
quiet_joins n q_close = refl
quiet_joins n q_brace = refl
quiet_joins n q_check = refl
quiet_joins n q_end = refl

pub quiet_goes : (s : RuleState) (q : Quiet) → whole s ≡ true → goes s (quiet_role q) ≡ None
unfolding goes whole spot
quiet_goes Leaf q is = refl
quiet_goes ResultDue q is = absurd cc
quiet_goes PlayerDue q is = absurd cc
quiet_goes TextDue q is = absurd cc
quiet_goes EloDue q_then is = refl
quiet_goes EloDue q_else is = refl
quiet_goes EloDue q_close is = refl
quiet_goes EloDue q_brace is = refl
quiet_goes EloDue q_check is = refl
quiet_goes EloDue q_end is = refl
quiet_goes Pre q is = absurd cc
quiet_goes PreDone q is = refl
quiet_goes FindDue q is = absurd cc
quiet_goes Condition q is = absurd cc
quiet_goes ThenDue q is = absurd cc
quiet_goes Consequence q is = absurd cc
quiet_goes ElseDue q is = absurd cc
quiet_goes AllDue q is = absurd cc
quiet_goes NameDue q is = absurd cc
quiet_goes InDue q is = absurd cc
quiet_goes SquaresDue q is = absurd cc
quiet_goes MinDue q is = absurd cc
quiet_goes SortText q is = absurd cc
quiet_goes Tight q is = absurd cc
quiet_goes TightDone q is = refl
quiet_goes Direction q is = absurd cc
quiet_goes OneNumber q is = absurd cc
quiet_goes TwoNumbers q is = absurd cc
quiet_goes BetweenOpen q is = absurd cc
quiet_goes BetweenFirst q is = absurd cc
quiet_goes BetweenSecond q is = absurd cc
quiet_goes BetweenClose q is = absurd cc
quiet_goes ListOpen q is = absurd cc
quiet_goes ListFirst q is = absurd cc
quiet_goes ListSecond q is = absurd cc
quiet_goes ListMore q is = absurd cc
quiet_goes Parens q is = absurd cc
quiet_goes ParensClose q is = absurd cc
quiet_goes Braces q is = absurd cc
quiet_goes BracesMore q is = absurd cc
quiet_goes Closed q is = refl
quiet_goes LineStart q is = absurd cc
quiet_goes LineExtent q is = absurd cc
quiet_goes LineMost q is = absurd cc
quiet_goes LineArrow q is = absurd cc
quiet_goes Move q_then is = refl
quiet_goes Move q_else is = refl
quiet_goes Move q_close is = refl
quiet_goes Move q_brace is = refl
quiet_goes Move q_check is = refl
quiet_goes Move q_end is = refl
quiet_goes Origin q is = absurd cc
quiet_goes MovedFrom q_then is = refl
quiet_goes MovedFrom q_else is = refl
quiet_goes MovedFrom q_close is = refl
quiet_goes MovedFrom q_brace is = refl
quiet_goes MovedFrom q_check is = refl
quiet_goes MovedFrom q_end is = refl
quiet_goes Goal q is = absurd cc
quiet_goes MovedTo q_then is = refl
quiet_goes MovedTo q_else is = refl
quiet_goes MovedTo q_close is = refl
quiet_goes MovedTo q_brace is = refl
quiet_goes MovedTo q_check is = refl
quiet_goes MovedTo q_end is = refl
quiet_goes Taken q is = absurd cc
quiet_goes MovedTaking q_then is = refl
quiet_goes MovedTaking q_else is = refl
quiet_goes MovedTaking q_close is = refl
quiet_goes MovedTaking q_brace is = refl
quiet_goes MovedTaking q_check is = refl
quiet_goes MovedTaking q_end is = refl
quiet_goes Promoted q is = absurd cc
quiet_goes (Part g b) q is = absurd cc
quiet_goes (Bare true b) q is = absurd cc
quiet_goes (Bare false true) q_then is = refl
quiet_goes (Bare false true) q_else is = refl
quiet_goes (Bare false true) q_close is = refl
quiet_goes (Bare false true) q_brace is = refl
quiet_goes (Bare false true) q_check is = refl
quiet_goes (Bare false true) q_end is = refl
quiet_goes (Bare false false) q_then is = refl
quiet_goes (Bare false false) q_else is = refl
quiet_goes (Bare false false) q_close is = refl
quiet_goes (Bare false false) q_brace is = refl
quiet_goes (Bare false false) q_check is = refl
quiet_goes (Bare false false) q_end is = refl
quiet_goes (Count g b) q is = absurd cc
quiet_goes (Counted g b) q is = absurd cc
quiet_goes (UpTo g b) q is = absurd cc
quiet_goes (UpEnd g b) q is = absurd cc
quiet_goes (Marked true b) q is = absurd cc
quiet_goes (Marked false true) q_then is = refl
quiet_goes (Marked false true) q_else is = refl
quiet_goes (Marked false true) q_close is = refl
quiet_goes (Marked false true) q_brace is = refl
quiet_goes (Marked false true) q_check is = refl
quiet_goes (Marked false true) q_end is = refl
quiet_goes (Marked false false) q_then is = refl
quiet_goes (Marked false false) q_else is = refl
quiet_goes (Marked false false) q_close is = refl
quiet_goes (Marked false false) q_brace is = refl
quiet_goes (Marked false false) q_check is = refl
quiet_goes (Marked false false) q_end is = refl

-- after a filter a rule is brought to its end by such a token
abbrev pub IsQuiet : Exit → Type 0
IsQuiet ended = Unit {0}
IsQuiet (by_token t p) = (q : Quiet) × (role t ≡ quiet_role q)
IsQuiet by_check = Unit {0}

pub quiet_exit : (s : RuleState) → IsQuiet (exit (next s))
unfolding next role word_of sign_of spot
quiet_exit Leaf = tt
quiet_exit ResultDue = tt
quiet_exit PlayerDue = tt
quiet_exit TextDue = tt
quiet_exit EloDue = tt
quiet_exit Pre = tt
quiet_exit PreDone = tt
quiet_exit FindDue = tt
quiet_exit Condition = (q_then, refl)
quiet_exit ThenDue = tt
quiet_exit Consequence = (q_else, refl)
quiet_exit ElseDue = tt
quiet_exit AllDue = tt
quiet_exit NameDue = tt
quiet_exit InDue = tt
quiet_exit SquaresDue = tt
quiet_exit MinDue = tt
quiet_exit SortText = tt
quiet_exit Tight = tt
quiet_exit TightDone = tt
quiet_exit Direction = tt
quiet_exit OneNumber = tt
quiet_exit TwoNumbers = tt
quiet_exit BetweenOpen = tt
quiet_exit BetweenFirst = tt
quiet_exit BetweenSecond = (q_close, refl)
quiet_exit BetweenClose = tt
quiet_exit ListOpen = tt
quiet_exit ListFirst = tt
quiet_exit ListSecond = (q_close, refl)
quiet_exit ListMore = (q_close, refl)
quiet_exit Parens = (q_close, refl)
quiet_exit ParensClose = tt
quiet_exit Braces = (q_brace, refl)
quiet_exit BracesMore = (q_brace, refl)
quiet_exit Closed = tt
quiet_exit LineStart = tt
quiet_exit LineExtent = tt
quiet_exit LineMost = tt
quiet_exit LineArrow = tt
quiet_exit Move = tt
quiet_exit Origin = tt
quiet_exit MovedFrom = tt
quiet_exit Goal = tt
quiet_exit MovedTo = tt
quiet_exit Taken = tt
quiet_exit MovedTaking = tt
quiet_exit Promoted = tt
quiet_exit (Part true b) = (q_close, refl)
quiet_exit (Part false b) = tt
quiet_exit (Bare true b) = tt
quiet_exit (Bare false b) = tt
quiet_exit (Count true b) = tt
quiet_exit (Count false b) = tt
quiet_exit (Counted true b) = tt
quiet_exit (Counted false b) = tt
quiet_exit (UpTo true b) = tt
quiet_exit (UpTo false b) = tt
quiet_exit (UpEnd true b) = tt
quiet_exit (UpEnd false b) = tt
quiet_exit (Marked true b) = tt
quiet_exit (Marked false b) = tt
