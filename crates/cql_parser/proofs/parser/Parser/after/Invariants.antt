use Rattle.std.proofs.Common.{◌≡◌, length}
use Rattle.cql_syntax.specs.Limits.{most_open}
use Rattle.cql_parser.specs.Internal.Machine.{after}
use Rattle.cql_parser.specs.Internal.TreeBuilder.{tree_builder}
use Rattle.cql_parser.specs.Internal.ParserStates.{head_in, items_in, frames_in}
use Rattle.cql_parser.specs.Internal.Models.{node_model}
use Rattle.cql_parser.proofs.parser.Parser.after.Given as goal

abbrev pub invariant-frames : goal.invariant-frames
invariant-frames l = record {
  same : after tree_builder most_open (head_in l.self) (items_in l.self) l.level (node_model l.node) (frames_in l.self) l.token l.role
      ≡ after tree_builder most_open (head_in l.fn.self) (items_in l.fn.self) l.fn.level (node_model l.fn.node) (frames_in l.fn.self) l.token l.role;
}

abbrev pub decreases-frames : goal.decreases-frames
decreases-frames l = length (frames_in l.self)
