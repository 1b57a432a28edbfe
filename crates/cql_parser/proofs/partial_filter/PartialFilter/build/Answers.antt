use Rattle.std.proofs.Common.{◌∙◌, ap, sym}
use Rattle.std.specs.Option.{option_map}
use Rattle.cql_syntax.specs.TreeOf.{body_tree, parts_tree}
use Rattle.cql_parser.specs.PartialFilters.{a_group, node_by, with_body}
use Rattle.cql_parser.specs.Internal.Models.{partial_filter_model}
use Rattle.cql_parser.proofs.partial_filter.PartialFilter.build.Goals as goal

pub returns-in_ok-whole-in-Group : goal.returns-in_ok-whole-in-Group
returns-in_ok-whole-in-Group c =
    ap a_group (c.in_ok-whole-in-Group.ensures ∙ ap (λ line. with_body (parts_tree line.parts) (option_map body_tree line.body) line.mark) c.into_parts.ensures)
    ∙ sym (ap (node_by (partial_filter_model c.args.self)) c.in-Group.is)
