-- The models of the code's values, for the contracts of private functions.
use Rattle.std.specs.Option.{option_map}
use Rattle.cql_syntax.specs.TreeOf.{filter_tree, filters_tree, parts_tree, body_tree, written_tree}
use Rattle.cql_parser.specs.PartialFilters.{Node, a_filter, a_group, PartialFilter, Opening}
use Rattle.cql_parser.specs.Internal.TreeBuilder.{OpenRule}
use Rattle.cql_parser.specs.declared.partial_filter.Node.{Node as CodeNode}
use Rattle.cql_parser.specs.declared.partial_filter.Node.TheVariants as nodes
use Rattle.cql_parser.specs.declared.partial_filter.PartialFilter.{PartialFilter as CodeDraft}
use Rattle.cql_parser.specs.declared.head.Head.{Head as CodeHead}
use Rattle.cql_parser.specs.declared.open_rule.OpenRule.{OpenRule as CodeRule}

abbrev pub node_model : CodeNode → Node
node_model (nodes.Filter f) = a_filter (filter_tree f)
node_model (nodes.Group cs) = a_group (parts_tree cs)

abbrev pub partial_filter_model : CodeDraft → PartialFilter
partial_filter_model d = record {
  at = d.at;
  production = d.production;
  flag = d.flag;
  back = d.back;
  side = d.side;
  result = d.result;
  text = d.text;
  least = d.least;
  most = d.most;
  extent = d.extent;
  one = written_tree d.slots.one;
  two = written_tree d.slots.two;
  three = written_tree d.slots.three;
  last = written_tree d.slots.last;
  row = filters_tree d.row;
  parts = parts_tree d.line.parts;
  body = option_map body_tree d.line.body;
  mark = d.line.mark;
}

abbrev pub rule_model : CodeRule → OpenRule
rule_model r = record { root = r.root; end = r.end; draft = partial_filter_model r.draft }

abbrev pub head_model : CodeHead → Opening
head_model h = record { variations = h.variations; match_at = h.match_at; match_text = h.match_text; pending = h.pending }
