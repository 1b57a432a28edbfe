-- The models of the open frames, for the contracts of private functions.
use Rattle.std.specs.Prelude.{◌≡◌, ℕ, List, [], ◌∷◌, Option, Some, None, reverse, map}
use Rattle.cql_parser.specs.declared.stack.Frame.{Frame as CodeFrame}
use Rattle.cql_parser.specs.declared.stack.Frame.TheVariants.{InRule as CodeInRule, Joining as CodeJoining}
use Rattle.cql_parser.specs.PartialFilters.{Node}
use Rattle.cql_parser.specs.Internal.Machine.{Frame, InRule, Joining}
use Rattle.cql_parser.specs.RuleStates.{depth_of}
use Rattle.cql_parser.specs.Internal.TreeBuilder.{OpenRule, blank}
use Rattle.cql_parser.specs.Internal.Models.{node_model, rule_model}

abbrev pub frame_model : CodeFrame → Frame OpenRule Node
frame_model (CodeInRule rule) = InRule (rule_model rule)
frame_model (CodeJoining level node joint) = Joining level (node_model node) blank joint

-- the last of a list is the innermost
unfoldable pub stack_model : List CodeFrame → List (Frame OpenRule Node)
stack_model fs = map frame_model (reverse fs)

-- the number of counted rules that a frame adds
abbrev pub opened : CodeFrame → ℕ
opened (CodeInRule rule) = depth_of rule.root
opened (CodeJoining level node joint) = 0

abbrev pub Popped : List (Frame OpenRule Node) → List (Frame OpenRule Node) → Option CodeFrame → Type 0
Popped old new None = (old ≡ []) × (new ≡ [])
Popped old new (Some f) = old ≡ frame_model f ∷ new
