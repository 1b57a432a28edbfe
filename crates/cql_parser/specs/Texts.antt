-- The query that a text spells by its tokens, or its fault.
use Rattle.std.specs.Prelude.{◌≡◌, ◌⊎◌, ℕ, List, Ok, Err}
use Rattle.cql_syntax.specs.Limits.{most_open}
use Rattle.cql_syntax.specs.Trees.{QueryTree}
use Rattle.cql_syntax.specs.declared.fault.QueryFault.{QueryFault}
use Rattle.cql_syntax.specs.declared.token.QueryToken.{QueryToken}
use Rattle.cql_lexer.specs.Tokens.{tokens_of}
use Rattle.cql_parser.specs.PartialFilters.{Spells}
use Rattle.cql_parser.specs.Faults.{IsFault}

-- the tokens of a text spell a query
abbrev pub TextSpells : List ℕ → QueryTree → Type 0
TextSpells text query = (tokens : List QueryToken) × (tokens_of text ≡ Ok tokens) × Spells most_open tokens query

-- a text has no tokens, for this fault, or its tokens have the fault
abbrev pub IsTextFault : List ℕ → QueryFault → Type 0
IsTextFault text fault =
    (tokens_of text ≡ Err fault) ⊎ ((tokens : List QueryToken) × (tokens_of text ≡ Ok tokens) × IsFault tokens fault)
