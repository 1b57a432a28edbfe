-- The kinds that filters require of their parts.
use Rattle.std.specs.Prelude.{Bool, true, false}
use Rattle.cql_syntax.specs.declared.leaves.Kind.{Kind}
use Rattle.cql_syntax.specs.declared.leaves.Kind.TheVariants.{Position, Set, Number}
use Rattle.cql_syntax.specs.declared.leaves.Pair.{Pair}
use Rattle.cql_syntax.specs.declared.leaves.Pair.TheVariants.{Attacks, AttackedBy, Between, Less, AtMost, Equal, AtLeast, Greater}
use Rattle.cql_syntax.specs.declared.leaves.Unary.{Unary}
use Rattle.cql_syntax.specs.declared.leaves.Unary.TheVariants.{Not, Complement, Count, Power, Light, Dark, Find, FindUp, Child, Parent}

-- True if a filter of the second kind may occur in place of one of the first. A filter of any kind may be a position.
abbrev pub accepts : Kind → Kind → Bool
accepts Position found = true
accepts Set Set = true
accepts Number Number = true
accepts wanted found = false

abbrev pub unary_operand_kind : Unary → Kind
unary_operand_kind Not = Position
unary_operand_kind Complement = Set
unary_operand_kind Count = Set
unary_operand_kind Power = Set
unary_operand_kind Light = Set
unary_operand_kind Dark = Set
unary_operand_kind Find = Position
unary_operand_kind FindUp = Position
unary_operand_kind Child = Position
unary_operand_kind Parent = Position

abbrev pub pair_operand_kind : Pair → Kind
pair_operand_kind Attacks = Set
pair_operand_kind AttackedBy = Set
pair_operand_kind Between = Set
pair_operand_kind Less = Number
pair_operand_kind AtMost = Number
pair_operand_kind Equal = Number
pair_operand_kind AtLeast = Number
pair_operand_kind Greater = Number
