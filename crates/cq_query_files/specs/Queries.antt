-- The query that a text spells, or its fault.
use Rattle.std.specs.Prelude.{◌≡◌, ◌⊎◌, ℕ, List, None, Some, Ok, Err}
use Rattle.cql_syntax.specs.Limits.{most_open}
use Rattle.cql_syntax.specs.Trees.{QueryTree}
use Rattle.cql_syntax.specs.TreeFaults.{tree_fault}
use Rattle.cql_syntax.specs.declared.fault.QueryFault.{QueryFault}
use Rattle.cql_syntax.specs.declared.token.QueryToken.{QueryToken}
use Rattle.cql_lexer.specs.Tokens.{tokens_of}
use Rattle.cql_parser.specs.PartialFilters.{Spells}
use Rattle.cql_parser.specs.Faults.{IsFault}

-- A text is this query: its tokens spell it, and it breaks no rule.
pub record IsQuery (text : List ℕ) (query : QueryTree) : Type 0 where
  pub tokens : List QueryToken
  pub are_tokens : tokens_of text ≡ Ok tokens
  pub spells : Spells most_open tokens query
  pub unbroken : tree_fault query ≡ None

-- the tokens of a text spell no query, for this fault
pub record HasParseFault (text : List ℕ) (fault : QueryFault) : Type 0 where
  pub tokens : List QueryToken
  pub are_tokens : tokens_of text ≡ Ok tokens
  pub is_fault : IsFault tokens fault

-- or they spell one with this fault
pub record HasTreeFault (text : List ℕ) (fault : QueryFault) : Type 0 where
  pub tokens : List QueryToken
  pub are_tokens : tokens_of text ≡ Ok tokens
  pub query : QueryTree
  pub spells : Spells most_open tokens query
  pub broken : tree_fault query ≡ Some fault

-- The fault of a text that is no query: the first of its characters, else the first of its tokens, else the first of the query that they
-- spell.
abbrev pub IsQueryFault : List ℕ → QueryFault → Type 0
IsQueryFault text fault = (tokens_of text ≡ Err fault) ⊎ HasParseFault text fault ⊎ HasTreeFault text fault
