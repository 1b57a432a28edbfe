-- The trees that are built while reading, for the contracts of private functions.
use Rattle.cql_syntax.specs.Trees.{FilterTrees, no_filters, with_filter}
use Rattle.cql_syntax.specs.declared.token.QueryToken.{QueryToken}
use Rattle.cql_syntax.specs.declared.token.QueryTokenKind.TheVariants as tokens
use Rattle.cql_parser.specs.declared.rule_state.RuleState.{RuleState}
use Rattle.cql_parser.specs.PartialFilters.{Node, PartialFilter, partial_filter_of, say, take, node_of, filter_of, infix_node, Opening, no_opening, add_token}
use Rattle.cql_parser.specs.Internal.Machine.{Builder}

-- the state after the first token of a rule, the state after its last part, and the filter so far
pub record OpenRule : Type 0 where
  pub root : RuleState
  pub end : RuleState
  pub draft : PartialFilter

-- the token kept between two filters: only its operation matters
abbrev pub blank : QueryToken
blank = record { at = 0; kind = tokens.End }

abbrev pub tree_builder : Builder Opening OpenRule Node FilterTrees
tree_builder = record {
  no_head = no_opening;
  with_head_token = λ o x. add_token o x x.kind;
  first_of = λ x s. record { root = s; end = s; draft = partial_filter_of x s };
  add_of = λ r x s. record { root = r.root; end = s; draft = say r.draft x.kind r.end };
  put_of = λ r a s. record { root = r.root; end = s; draft = take r.draft a r.end };
  root_of = λ r. r.root;
  end_of = λ r. r.end;
  made_of = λ r. node_of r.draft;
  joined_of = λ l p x j q. infix_node l p j q;
  kept = λ x. blank;
  none_of = no_filters;
  more_of = λ fs a. with_filter fs (filter_of a);
}
