-- The models of the parser's states, for the contracts of private functions.
use Rattle.std.specs.Prelude.{◌≡◌, Bool, true, false, List}
use Rattle.cql_syntax.specs.Limits.{most_open}
use Rattle.cql_syntax.specs.Trees.{FilterTrees, QueryTree}
use Rattle.cql_syntax.specs.TreeOf.{filters_tree}
use Rattle.cql_syntax.specs.declared.fault.QueryReason.{QueryReason}
use Rattle.cql_syntax.specs.declared.fault.QueryReason.TheVariants.{UnexpectedToken, UnexpectedEnd, OutsideProfile, TooDeep}
use Rattle.cql_syntax.specs.declared.token.QueryToken.{QueryToken}
use Rattle.cql_syntax.specs.declared.token.QueryTokenKind.{QueryTokenKind}
use Rattle.cql_syntax.specs.declared.token.QueryTokenKind.TheVariants.{Reserved, End}
use Rattle.cql_parser.specs.declared.rule_state.HeadState.TheVariants.{Start}
use Rattle.cql_parser.specs.declared.parser.ParserStep.{ParserStep}
use Rattle.cql_parser.specs.declared.parser.ParserStep.TheVariants.{Ended, Continued}
use Rattle.cql_parser.specs.declared.parser.ParserState.{ParserState}
use Rattle.cql_parser.specs.declared.parser.ParserState.TheVariants as reached
use Rattle.cql_parser.specs.declared.parser.Parser.{Parser}
use Rattle.cql_parser.specs.declared.role.Role.{Role}
use Rattle.cql_parser.specs.PartialFilters.{Node, Opening as Head}
use Rattle.cql_parser.specs.Internal.Frames.{stack_model}
use Rattle.cql_parser.specs.Internal.Machine.{Frame, State, Opening, Reading, Done, Deep, Stuck, after}
use Rattle.cql_parser.specs.Internal.TreeBuilder.{OpenRule, tree_builder}
use Rattle.cql_parser.specs.Internal.Models.{node_model, head_model}

abbrev pub MachineState : Type 0
MachineState = State Head OpenRule Node FilterTrees

abbrev pub head_in : Parser → Head
head_in r = head_model r.head

abbrev pub items_in : Parser → FilterTrees
items_in r = filters_tree r.items

abbrev pub frames_in : Parser → List (Frame OpenRule Node)
frames_in r = stack_model r.stack.frames.items

abbrev pub state_model : ParserState → Parser → MachineState
state_model (reached.Opening place) r = Opening (head_in r) place
state_model reached.Reading r = Reading (head_in r) (items_in r) (frames_in r)
state_model reached.Done r = Done (head_in r) (items_in r)
state_model reached.Deep r = Deep
state_model reached.Stuck r = Stuck

-- before the first token
abbrev pub at_start : ParserState
at_start = reached.Opening Start

-- no query goes on from this state
abbrev pub is_fault : ParserState → Bool
is_fault reached.Deep = true
is_fault reached.Stuck = true
is_fault state = false

-- the reason why no query goes on with a token
abbrev pub reason_of : QueryTokenKind → ParserState → QueryReason
reason_of (Reserved name) state = OutsideProfile name
reason_of End state = UnexpectedEnd
reason_of kind reached.Deep = TooDeep
reason_of kind state = UnexpectedToken

-- the state that a step leads to; at a rule's end the token is read after the rule's node
abbrev pub step_model : ParserStep → Parser → QueryToken → Role → MachineState
step_model (Ended level node) r x role = after tree_builder most_open (head_in r) (items_in r) level (node_model node) (frames_in r) x role
step_model (Continued state) r x role = state_model state r

-- the open frames around a rule at its end are all frames
abbrev pub HasEnded : ParserStep → Parser → Parser → Type 0
HasEnded (Ended level node) old new = frames_in new ≡ frames_in old
HasEnded (Continued state) old new = Unit {0}

-- the query that was read
abbrev pub query_in : Parser → QueryTree
query_in r = record {
  variations = (head_in r).variations;
  match_at = (head_in r).match_at;
  match_text = (head_in r).match_text;
  items = items_in r;
}
