-- The queries that token lists spell, as they are written.
use Rattle.std.specs.Prelude.{◌≡◌, ℕ, ◌+◌, ◌<◌, ◌≤◌, true, false, List, [], ◌∷◌, ◌++◌, Option, Some, None, fold}
use Rattle.cql_syntax.specs.declared.token.QueryToken.{QueryToken}
use Rattle.cql_parser.specs.declared.rule_state.OperandContext.{OperandContext}
use Rattle.cql_parser.specs.declared.rule_state.OperandContext.TheVariants.{Within}
use Rattle.cql_parser.specs.declared.rule_state.HeadState.{HeadState}
use Rattle.cql_parser.specs.declared.rule_state.HeadState.TheVariants.{Start, Over}
use Rattle.cql_parser.specs.declared.rule_state.RuleState.{RuleState}
use Rattle.cql_parser.specs.declared.role.InfixOperator.{InfixOperator}
use Rattle.cql_parser.specs.declared.role.Role.{Role}
use Rattle.cql_parser.specs.declared.role.Role.TheVariants.{End}
use Rattle.cql_parser.specs.RuleStates.{role, heads, opens, goes, context, least, next, whole, level_of, depth_of, joint, infix_level, takes, joins}

mutual
  -- a filter as it is written: by a rule, or as two filters and a token between them
  pub data Phrase : Type 0 where
    made : Parts → Phrase
    joined : Phrase → QueryToken → InfixOperator → Phrase → Phrase

  -- the tokens and the filters along a rule, each with the state after it
  pub data Parts : Type 0 where
    first : QueryToken → RuleState → Parts
    add : Parts → QueryToken → RuleState → Parts
    put : Parts → Phrase → RuleState → Parts

-- filters in a row
pub data Items : Type 0 where
  none : Items
  more : Items → Phrase → Items

abbrev mutual
  pub text : Phrase → List QueryToken
  text (made ps) = texts ps
  text (joined p x j q) = text p ++ (x ∷ text q)

  pub texts : Parts → List QueryToken
  texts (first x s) = x ∷ []
  texts (add ps x s) = texts ps ++ (x ∷ [])
  texts (put ps p s) = texts ps ++ text p

abbrev pub items_text : Items → List QueryToken
items_text none = []
items_text (more ps p) = items_text ps ++ text p

-- the first token
abbrev mutual
  pub head : Phrase → QueryToken
  head (made ps) = head_of ps
  head (joined p x j q) = head p

  pub head_of : Parts → QueryToken
  head_of (first x s) = x
  head_of (add ps x s) = head_of ps
  head_of (put ps p s) = head_of ps

-- the state after the first token, and after the last part
abbrev pub root : Parts → RuleState
root (first x s) = s
root (add ps x s) = root ps
root (put ps p s) = root ps

abbrev pub end : Parts → RuleState
end (first x s) = s
end (add ps x s) = s
end (put ps p s) = s

abbrev pub level : Phrase → ℕ
level (made ps) = level_of (root ps)
level (joined p x j q) = infix_level j

-- A token that follows belongs to nothing inside. A token belongs to the innermost rule that goes on with it, and to the innermost row that
-- it makes longer. So a brace after a part of a line is its mark.
abbrev mutual
  pub IsOver : Phrase → Role → Type 0
  IsOver (made ps) r = AreOver ps r × (goes (end ps) r ≡ None)
  IsOver (joined p x j q) r = IsOver q r × (joins (infix_level j + 1) r ≡ false)

  pub AreOver : Parts → Role → Type 0
  AreOver (first x s) r = Unit {0}
  AreOver (add ps x s) r = Unit {0}
  AreOver (put ps p s) r = IsOver p r × (joins (least (end ps)) r ≡ false)

-- A filter is written by the grammar. So many counted rules are open around it, and no more than a limit may be.
abbrev mutual
  pub Fits : ℕ → ℕ → OperandContext → Phrase → Type 0
  Fits limit n c (made ps) = Goes limit n c ps × (whole (end ps) ≡ true)
  Fits limit n c (joined p x j q) =
      (joint (role x.kind) ≡ Some j) × (takes j (level p) ≡ true) × (infix_level j < level q) × IsOver p (role x.kind)
      × Fits limit n c p × Fits limit n Within q

  -- the same of the first parts along a rule
  pub Goes : ℕ → ℕ → OperandContext → Parts → Type 0
  Goes limit n c (first x s) = (opens c (role x.kind) ≡ Some s) × (n + depth_of s ≤ limit)
  Goes limit n c (add ps x s) = (goes (end ps) (role x.kind) ≡ Some s) × AreOver ps (role x.kind) × Goes limit n c ps
  Goes limit n c (put ps p s) =
      (next (end ps) ≡ s) × (whole (end ps) ≡ false) × (goes (end ps) (role (head p).kind) ≡ None)
      × AreOver ps (role (head p).kind)
      × (least (end ps) ≤ level p) × Goes limit n c ps × Fits limit (n + depth_of (root ps)) (context (end ps)) p

-- a token after filters in a row belongs to none of them
abbrev pub AllOver : Items → Role → Type 0
AllOver none r = Unit {0}
AllOver (more ps p) r = IsOver p r × (joins 0 r ≡ false)

abbrev pub AllFit : ℕ → Items → Type 0
AllFit limit none = Unit {0}
AllFit limit (more ps p) = AllOver ps (role (head p).kind) × AllFit limit ps × Fits limit 0 Within p

-- the state of a query's head to which tokens lead
abbrev pub head_step : Option HeadState → QueryToken → Option HeadState
head_step None x = None
head_step (Some place) x = heads place (role x.kind)

abbrev pub heading : List QueryToken → Option HeadState
heading ts = fold head_step (Some Start) ts

abbrev pub IsSome : Items → Type 0
IsSome none = ⊥
IsSome (more ps p) = Unit {0}

-- a query as it is written: its head, its items and the end
pub record IsGrammatical (limit : ℕ) (ts : List QueryToken) : Type 0 where
  pub opening : List QueryToken
  pub items : Items
  pub closing : QueryToken
  pub opens : heading opening ≡ Some Over
  pub some : IsSome items
  pub fits : AllFit limit items
  pub over : AllOver items End
  pub closes : role closing.kind ≡ End
  pub spelled : opening ++ (items_text items ++ (closing ∷ [])) ≡ ts

-- some query begins with the tokens
pub record IsGrammaticalPrefix (limit : ℕ) (ts : List QueryToken) : Type 0 where
  pub rest : List QueryToken
  pub query : IsGrammatical limit (ts ++ rest)
