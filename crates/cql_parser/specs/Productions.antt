-- The forms that the rules of the grammar produce from their parts.
use Rattle.std.specs.Prelude.{Bool, true, false, Option, Some}
use Rattle.cql_syntax.specs.Words.{word_of, sign_of}
use Rattle.cql_syntax.specs.declared.leaves.Chain.TheVariants as chains
use Rattle.cql_syntax.specs.declared.leaves.Field.TheVariants as fields
use Rattle.cql_syntax.specs.declared.leaves.Of.TheVariants as sides
use Rattle.cql_syntax.specs.declared.leaves.Unary.TheVariants as unaries
use Rattle.cql_syntax.specs.declared.token.QueryTokenKind.{QueryTokenKind}
use Rattle.cql_syntax.specs.declared.token.QueryTokenKind.TheVariants as tokens
use Rattle.cql_syntax.specs.declared.words.Sign.{Sign as OneSign}
use Rattle.cql_syntax.specs.declared.words.Sign.TheVariants as signs
use Rattle.cql_syntax.specs.declared.words.Word.{Word as OneWord}
use Rattle.cql_syntax.specs.declared.words.Word.TheVariants as meanings
use Rattle.cql_parser.specs.declared.production.Production.{Production}
use Rattle.cql_parser.specs.declared.production.Production.TheVariants.{Designator, Number, Name, Plain, Outcome, Tagged, Elo, Comment, Unary, Direction, Family, If, Square, Sort, Between, List, Parens, Line, Group, Move}
use Rattle.cql_parser.specs.declared.rule_state.RuleState.{RuleState}
use Rattle.cql_parser.specs.declared.rule_state.RuleState.TheVariants.{Part}

-- true if the form of the rule has no text and no filters in it
abbrev pub is_leaf : Production → Bool
is_leaf (Designator squares) = true
is_leaf (Number n) = true
is_leaf (Plain word) = true
is_leaf Outcome = true
is_leaf Elo = true
is_leaf Group = true
is_leaf m = false

-- the production of a word's rule
abbrev pub word_production : Option OneWord → Production
word_production (Some (meanings.Plain plain)) = Plain plain
word_production (Some (meanings.Unary unary)) = Unary unary
word_production (Some (meanings.Way way)) = Direction way
word_production (Some (meanings.Family family)) = Family family
word_production (Some meanings.Result) = Outcome
word_production (Some meanings.Player) = Tagged (fields.Player sides.Either)
word_production (Some meanings.Event) = Tagged fields.Event
word_production (Some meanings.Site) = Tagged fields.Site
word_production (Some meanings.Elo) = Elo
word_production (Some meanings.Comment) = Comment
word_production (Some meanings.If) = If
word_production (Some meanings.Square) = Square
word_production (Some meanings.Sort) = Sort
word_production (Some meanings.Between) = Between
word_production (Some meanings.Max) = List chains.Max
word_production (Some meanings.Min) = List chains.Min
word_production (Some meanings.Line) = Line
word_production (Some meanings.Move) = Move
word_production word = Parens

abbrev pub parens_production : RuleState → Production
parens_production (Part group back) = Group
parens_production place = Parens

-- the production of a mark's rule, by the state after it
abbrev pub sign_production : Option OneSign → RuleState → Production
sign_production (Some signs.Tilde) place = Unary unaries.Complement
sign_production (Some signs.Hash) place = Unary unaries.Count
sign_production (Some signs.OpenBrace) place = List chains.All
sign_production sign place = parens_production place

-- the production of the rule whose first token leads to a state
unfoldable pub production : QueryTokenKind → RuleState → Production
production (tokens.Squares designator) place = Designator designator
production (tokens.Number number) place = Number number
production (tokens.Name name) place = Name
production (tokens.Word number) place = word_production (word_of number)
production (tokens.Mark number) place = sign_production (sign_of number) place
production kind place = Parens
