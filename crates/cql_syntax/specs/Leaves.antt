-- The equality of two values in a query that have no tree below them.
use Rattle.std.specs.Prelude.{ℕ, Bool, true, false, ◌&&◌, ◌==◌, not, if◌then◌else◌}
use Rattle.cq_symmetry.specs.declared.families.Family.{Family}
use Rattle.cq_symmetry.specs.declared.families.Family.TheVariants.{Flip, Rotate90, FlipVertical, FlipHorizontal, FlipColor, Shift, ShiftHorizontal, ShiftVertical}
use Rattle.cql_syntax.specs.declared.extents.Extent.{Extent}
use Rattle.cql_syntax.specs.declared.extents.Extent.TheVariants.{Any as AnyLength, Within}
use Rattle.cql_syntax.specs.declared.leaves.Chain.{Chain}
use Rattle.cql_syntax.specs.declared.leaves.Chain.TheVariants.{Or, And, All, Union, Intersect, Product, Max, Min}
use Rattle.cql_syntax.specs.declared.leaves.Designator.{Designator}
use Rattle.cql_syntax.specs.declared.leaves.Field.{Field}
use Rattle.cql_syntax.specs.declared.leaves.Field.TheVariants.{Player, Event, Site}
use Rattle.cql_syntax.specs.declared.leaves.Kind.{Kind}
use Rattle.cql_syntax.specs.declared.leaves.Kind.TheVariants.{Position, Set, Number}
use Rattle.cql_syntax.specs.declared.leaves.Mark.{Mark}
use Rattle.cql_syntax.specs.declared.leaves.Mark.TheVariants.{Once, Star, Plus, Maybe, Times}
use Rattle.cql_syntax.specs.declared.leaves.Of.{Of}
use Rattle.cql_syntax.specs.declared.leaves.Of.TheVariants.{Either, White, Black}
use Rattle.cql_syntax.specs.declared.leaves.Outcome.{Outcome}
use Rattle.cql_syntax.specs.declared.leaves.Outcome.TheVariants.{White as WhiteWins, Black as BlackWins, Draw, Unfinished}
use Rattle.cql_syntax.specs.declared.leaves.Pair.{Pair}
use Rattle.cql_syntax.specs.declared.leaves.Pair.TheVariants.{Attacks, AttackedBy, Between, Less, AtMost, Equal, AtLeast, Greater}
use Rattle.cql_syntax.specs.declared.leaves.Plain.{Plain}
use Rattle.cql_syntax.specs.declared.leaves.Plain.TheVariants.{Check, Mate, Stalemate, Wtm, Btm, Initial, Terminal, Mainline, Variation, HasComment, Ply, MoveNumber, Depth, Year}
use Rattle.cql_syntax.specs.declared.leaves.Unary.{Unary}
use Rattle.cql_syntax.specs.declared.leaves.Unary.TheVariants.{Not, Complement, Count, Power, Light, Dark, Find, FindUp, Child, Parent}
use Rattle.cql_syntax.specs.declared.leaves.Way.{Way}
use Rattle.cql_syntax.specs.declared.leaves.Way.TheVariants.{Up, Down, Left, Right, Northeast, Northwest, Southeast, Southwest, Diagonal, Orthogonal, AnyDirection}

abbrev pub same_flag : Bool → Bool → Bool
same_flag a b = if a then b else not b

-- the words of each type, numbered in their order

abbrev pub plain_number : Plain → ℕ
plain_number Check = 0
plain_number Mate = 1
plain_number Stalemate = 2
plain_number Wtm = 3
plain_number Btm = 4
plain_number Initial = 5
plain_number Terminal = 6
plain_number Mainline = 7
plain_number Variation = 8
plain_number HasComment = 9
plain_number Ply = 10
plain_number MoveNumber = 11
plain_number Depth = 12
plain_number Year = 13

abbrev pub of_number : Of → ℕ
of_number Either = 0
of_number White = 1
of_number Black = 2

abbrev pub outcome_number : Outcome → ℕ
outcome_number WhiteWins = 0
outcome_number BlackWins = 1
outcome_number Draw = 2
outcome_number Unfinished = 3

abbrev pub unary_number : Unary → ℕ
unary_number Not = 0
unary_number Complement = 1
unary_number Count = 2
unary_number Power = 3
unary_number Light = 4
unary_number Dark = 5
unary_number Find = 6
unary_number FindUp = 7
unary_number Child = 8
unary_number Parent = 9

abbrev pub way_number : Way → ℕ
way_number Up = 0
way_number Down = 1
way_number Left = 2
way_number Right = 3
way_number Northeast = 4
way_number Northwest = 5
way_number Southeast = 6
way_number Southwest = 7
way_number Diagonal = 8
way_number Orthogonal = 9
way_number AnyDirection = 10

abbrev pub chain_number : Chain → ℕ
chain_number Or = 0
chain_number And = 1
chain_number All = 2
chain_number Union = 3
chain_number Intersect = 4
chain_number Product = 5
chain_number Max = 6
chain_number Min = 7

abbrev pub pair_number : Pair → ℕ
pair_number Attacks = 0
pair_number AttackedBy = 1
pair_number Between = 2
pair_number Less = 3
pair_number AtMost = 4
pair_number Equal = 5
pair_number AtLeast = 6
pair_number Greater = 7

abbrev pub family_number : Family → ℕ
family_number Flip = 0
family_number Rotate90 = 1
family_number FlipVertical = 2
family_number FlipHorizontal = 3
family_number FlipColor = 4
family_number Shift = 5
family_number ShiftHorizontal = 6
family_number ShiftVertical = 7

abbrev pub kind_number : Kind → ℕ
kind_number Position = 0
kind_number Set = 1
kind_number Number = 2

-- two words are the same if their numbers are

abbrev pub same_plain : Plain → Plain → Bool
same_plain a b = plain_number a == plain_number b

abbrev pub same_of : Of → Of → Bool
same_of a b = of_number a == of_number b

abbrev pub same_outcome : Outcome → Outcome → Bool
same_outcome a b = outcome_number a == outcome_number b

abbrev pub same_unary : Unary → Unary → Bool
same_unary a b = unary_number a == unary_number b

abbrev pub same_way : Way → Way → Bool
same_way a b = way_number a == way_number b

abbrev pub same_chain : Chain → Chain → Bool
same_chain a b = chain_number a == chain_number b

abbrev pub same_pair : Pair → Pair → Bool
same_pair a b = pair_number a == pair_number b

abbrev pub same_family : Family → Family → Bool
same_family a b = family_number a == family_number b

abbrev pub same_kind : Kind → Kind → Bool
same_kind a b = kind_number a == kind_number b

-- values with parts are the same if their parts are

abbrev pub same_designator : Designator → Designator → Bool
same_designator a b =
    (a.men == b.men) && (a.part.squares == b.part.squares)
    && same_flag a.part.whole_ranks b.part.whole_ranks && same_flag a.part.whole_files b.part.whole_files

abbrev pub same_field : Field → Field → Bool
same_field (Player a) (Player b) = same_of a b
same_field Event Event = true
same_field Site Site = true
same_field a b = false

abbrev pub same_mark : Mark → Mark → Bool
same_mark Once Once = true
same_mark Star Star = true
same_mark Plus Plus = true
same_mark Maybe Maybe = true
same_mark (Times a b) (Times c d) = (a == c) && (b == d)
same_mark a b = false

abbrev pub same_extent : Extent → Extent → Bool
same_extent AnyLength AnyLength = true
same_extent (Within a b) (Within c d) = (a == c) && (b == d)
same_extent a b = false
