-- The faults of tokens that spell no query.
use Rattle.std.specs.Prelude.{◌≡◌, ◌⊎◌, ℕ, List, [], ◌∷◌, ◌++◌, Result, Ok, Err}
use Rattle.cql_syntax.specs.Limits.{most_open}
use Rattle.cq_common.specs.declared.faults.Refusal.{Refusal}
use Rattle.cq_common.specs.declared.faults.Refusal.TheVariants.{Fault, NoMemory}
use Rattle.cql_syntax.specs.TreeOf.{query_tree}
use Rattle.cql_syntax.specs.declared.fault.QueryFault.{QueryFault}
use Rattle.cql_syntax.specs.declared.fault.QueryReason.{QueryReason}
use Rattle.cql_syntax.specs.declared.fault.QueryReason.TheVariants.{UnexpectedToken, UnexpectedEnd, OutsideProfile, TooDeep}
use Rattle.cql_syntax.specs.declared.token.QueryToken.{QueryToken}
use Rattle.cql_syntax.specs.declared.token.QueryTokenKind.{QueryTokenKind}
use Rattle.cql_syntax.specs.declared.token.QueryTokenKind.TheVariants.{Reserved, End}
use Rattle.cql_syntax.specs.declared.tree.Query.{Query}
use Rattle.cql_parser.specs.Grammar.{IsGrammaticalPrefix}
use Rattle.cql_parser.specs.PartialFilters.{Spells}

-- the last token is an end
abbrev pub IsEnded : List QueryToken → Type 0
IsEnded [] = ⊥
IsEnded (x ∷ []) = x.kind ≡ End
IsEnded (x ∷ y ∷ ts) = IsEnded (y ∷ ts)

-- The reason why no query begins with tokens of which the last is of this kind. A reserved name and the end of the query have their own
-- reasons. The depth alone is the reason if a query begins with the tokens within another limit. Any other token is unexpected within every
-- limit.
abbrev pub IsReason : List QueryToken → QueryTokenKind → QueryReason → Type 0
IsReason ts (Reserved name) reason = reason ≡ OutsideProfile name
IsReason ts End reason = reason ≡ UnexpectedEnd
IsReason ts kind reason =
    ((reason ≡ TooDeep) × (limit : ℕ) × IsGrammaticalPrefix limit ts)
    ⊎ ((reason ≡ UnexpectedToken) × ((limit : ℕ) → IsGrammaticalPrefix limit ts → ⊥))

-- the first token such that no query begins with the tokens up to it
pub record IsFault (ts : List QueryToken) (fault : QueryFault) : Type 0 where
  pub before : List QueryToken
  pub token : QueryToken
  pub rest : List QueryToken
  pub spelled : before ++ (token ∷ rest) ≡ ts
  pub begins : IsGrammaticalPrefix most_open before
  pub dead : IsGrammaticalPrefix most_open (before ++ (token ∷ [])) → ⊥
  pub byte : fault.byte ≡ token.at
  pub reason : IsReason (before ++ (token ∷ [])) token.kind fault.reason

-- the query that the tokens spell, or their fault; nothing is promised if memory runs out
abbrev pub Parses : List QueryToken → Result Query (Refusal QueryFault) → Type 0
Parses ts (Ok query) = Spells most_open ts (query_tree query)
Parses ts (Err (Fault fault)) = IsFault ts fault
Parses ts (Err NoMemory) = Unit {0}
