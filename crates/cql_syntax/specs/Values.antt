-- The value of a filter at a node, from the values of its parts.
use Rattle.std.specs.Prelude.{ℕ, ◌+◌, ◌-◌, ◌^◌, Bool, true, false, ◌&&◌, not, nat_lt, if◌then◌else◌, List, [], ◌∷◌, Option, Some, None, is_some, ℤ, pos, negsuc, ◌+ℤ◌, ◌-ℤ◌, ◌*ℤ◌, int_lt, int_le, fold, sum_by, count_by}
use Rattle.std.specs.List.{list_any, list_all, filter, range_with_len}
use Rattle.std.specs.Int.{int_max, int_min}
use Rattle.cq_geometry.specs.Squares.{squares}
use Rattle.cq_geometry.specs.Lines.{lies_between}
use Rattle.cq_geometry.specs.Steps.{steps_away}
use Rattle.cq_geometry.specs.Directions.{files_of, ranks_of}
use Rattle.cq_geometry.specs.declared.compass.Compass.{Compass}
use Rattle.cq_position.specs.declared.men.Man.{Man}
use Rattle.cq_position.specs.declared.men.Man.TheVariants.{K, Q, R, B, N, P, BlackK, BlackQ, BlackR, BlackB, BlackN, BlackP, Empty}
use Rattle.cq_position.specs.Attacks.{attacks}
use Rattle.cq_position.specs.Board.{man_at}
use Rattle.cq_symmetry.specs.Images.{is_light, is_square}
use Rattle.cql_syntax.specs.declared.leaves.Chain.{Chain}
use Rattle.cql_syntax.specs.declared.leaves.Chain.TheVariants.{Or, And, All, Union, Intersect, Product, Max, Min}
use Rattle.cql_syntax.specs.declared.leaves.Kind.{Kind}
use Rattle.cql_syntax.specs.declared.leaves.Kind.TheVariants.{Position, Set, Number}
use Rattle.cql_syntax.specs.declared.leaves.Pair.{Pair}
use Rattle.cql_syntax.specs.declared.leaves.Pair.TheVariants.{Attacks, AttackedBy, Between, Less, AtMost, Equal, AtLeast, Greater}

-- A position has a truth, a set those squares of the board that pass a test, and a number a whole number or no value.
pub data Value : Type 0 where
  as_truth : Bool → Value
  as_squares : (ℕ → Bool) → Value
  as_number : Option ℤ → Value

-- true if a value is of a kind
abbrev pub is_of_kind : Kind → Value → Bool
is_of_kind Position (as_truth b) = true
is_of_kind Set (as_squares x) = true
is_of_kind Number (as_number v) = true
is_of_kind _ _ = false

-- the squares of the board that pass a test
abbrev pub squares_where : (ℕ → Bool) → Value
squares_where test = as_squares (λ s. nat_lt s 64 && test s)

-- the value of a number that always has one
abbrev pub count : ℕ → Value
count n = as_number (Some (pos n))

-- The value as a position. A set holds if it isn't empty, and a number if it has a value.
abbrev pub holds : Value → Bool
holds (as_truth b) = b
holds (as_squares x) = list_any x squares
holds (as_number v) = is_some v

-- the value as a set: true if it has a square
abbrev pub has : Value → ℕ → Bool
has (as_truth b) s = false
has (as_squares x) s = x s
has (as_number v) s = false

-- the value as a number
abbrev pub amount : Value → Option ℤ
amount (as_truth b) = None
amount (as_squares x) = None
amount (as_number v) = v

-- sets

abbrev pub complement_of : Value → Value
complement_of x = squares_where (λ s. not (has x s))

abbrev pub union_of : List Value → Value
union_of xs = squares_where (λ s. list_any (λ x. has x s) xs)

-- the intersection of no sets is all squares
abbrev pub intersection_of : List Value → Value
intersection_of xs = squares_where (λ s. list_all (λ x. has x s) xs)

-- the squares of a set that are related to some square of another set by the test
abbrev pub related : (ℕ → ℕ → Bool) → Value → Value → Value
related test x y = squares_where (λ s. has x s && list_any (λ t. has y t && test s t) squares)

-- the squares strictly between a square of the one and a square of the other, of one rank, file or diagonal
abbrev pub between_of : Value → Value → Value
between_of x y = squares_where (λ s. list_any (λ a. has x a && list_any (λ b. has y b && lies_between a b s) squares) squares)

abbrev pub light_of : Value → Value
light_of x = squares_where (λ s. has x s && is_light s)

abbrev pub dark_of : Value → Value
dark_of x = squares_where (λ s. has x s && not (is_light s))

-- k steps in a direction lead from a square to a goal, for some k from m to n, past any men
abbrev pub leads_to : ℕ → ℕ → ℕ → ℕ → Compass → Bool
leads_to m n s goal d = list_any (λ k. is_square (steps_away (files_of d) (ranks_of d) s k) goal) (range_with_len m (n + 1 - m))

-- some square of the set leads to the goal in some direction
abbrev pub is_reached : List Compass → ℕ → ℕ → Value → ℕ → Bool
is_reached directions m n x goal = list_any (λ s. has x s && list_any (leads_to m n s goal) directions) squares

abbrev pub reached_of : List Compass → ℕ → ℕ → Value → Value
reached_of directions m n x = squares_where (is_reached directions m n x)

-- numbers

-- numbers of 64 bits with a sign
abbrev pub in_range : ℤ → Option ℤ
in_range z = if int_le (negsuc (2 ^ 63 - 1)) z && int_le z (pos (2 ^ 63 - 1)) then Some z else None

-- the result of an operation on two numbers, if both have a value
abbrev pub of_both : (ℤ → ℤ → Option ℤ) → Option ℤ → Option ℤ → Option ℤ
of_both f None b = None
of_both f (Some a) None = None
of_both f (Some a) (Some b) = f a b

-- a product goes from left to right, and has no value once a partial product leaves the range
abbrev pub times_one : Option ℤ → Value → Option ℤ
times_one a v = of_both (λ x y. in_range (x *ℤ y)) a (amount v)

abbrev pub product_of : List Value → Value
product_of vs = as_number (fold times_one (Some (pos 1)) vs)

-- a sum goes from left to right in the same way; each term is added or subtracted, starting at 0
abbrev pub plus_one : Option ℤ → Bool × Value → Option ℤ
plus_one a term = of_both (λ x y. in_range (if term.0 then x -ℤ y else x +ℤ y)) a (amount term.1)

abbrev pub total_of : List (Bool × Value) → Value
total_of terms = as_number (fold plus_one (Some (pos 0)) terms)

-- one of the numbers, chosen pair by pair; there is none if a number has no value, or if there are no numbers
abbrev pub chosen_from : (ℤ → ℤ → ℤ) → List Value → Option ℤ
chosen_from choose [] = None
chosen_from choose (v ∷ vs) = fold (λ a w. of_both (λ x y. Some (choose x y)) a (amount w)) (amount v) vs

-- the greater of the values that exist
abbrev pub greater : Option ℤ → Option ℤ → Option ℤ
greater None b = b
greater (Some a) None = Some a
greater (Some a) (Some b) = Some (int_max a b)

-- the greatest of the values that exist
abbrev pub greatest : List Value → Option ℤ
greatest [] = None
greatest (v ∷ vs) = greater (amount v) (greatest vs)

abbrev pub size_of : Value → Value
size_of x = count (count_by (has x) squares)

abbrev pub worth : Man → ℕ
worth P = 1
worth N = 3
worth B = 3
worth R = 5
worth Q = 9
worth K = 0
worth BlackP = 1
worth BlackN = 3
worth BlackB = 3
worth BlackR = 5
worth BlackQ = 9
worth BlackK = 0
worth Empty = 0

abbrev pub power_of : List Man → Value → Value
power_of men x = count (sum_by (λ s. if has x s then worth (man_at men s) else 0) squares)

-- positions

-- both numbers have values, which pass the test
abbrev pub compares : (ℤ → ℤ → Bool) → Option ℤ → Option ℤ → Bool
compares test None b = false
compares test (Some a) None = false
compares test (Some a) (Some b) = test a b

abbrev pub comparison_of : (ℤ → ℤ → Bool) → Value → Value → Value
comparison_of test x y = as_truth (compares test (amount x) (amount y))

abbrev pub some_holds : List Value → Value
some_holds vs = as_truth (list_any holds vs)

abbrev pub all_hold : List Value → Value
all_hold vs = as_truth (list_all holds vs)

-- the second part if the first holds, else the third
abbrev pub if_of : Value → Value → Value → Value
if_of x y z = as_truth (if holds x then holds y else holds z)

-- the condition holds of every square of a set, or of some square
abbrev pub square_of : Bool → Value → (ℕ → Bool) → Value
square_of true x asked = as_truth (list_all asked (filter (has x) squares))
square_of false x asked = as_truth (list_any asked (filter (has x) squares))

-- the chains, the pairs, and any of the values of a kind

abbrev pub chain_of : Chain → List Value → Value
chain_of Or vs = some_holds vs
chain_of And vs = all_hold vs
chain_of All vs = all_hold vs
chain_of Union vs = union_of vs
chain_of Intersect vs = intersection_of vs
chain_of Product vs = product_of vs
chain_of Max vs = as_number (chosen_from int_max vs)
chain_of Min vs = as_number (chosen_from int_min vs)

abbrev pub pair_of : List Man → Pair → Value → Value → Value
pair_of men Attacks x y = related (attacks men) x y
pair_of men AttackedBy x y = related (λ s t. attacks men t s) x y
pair_of men Between x y = between_of x y
pair_of men Less x y = comparison_of int_lt x y
pair_of men AtMost x y = comparison_of int_le x y
pair_of men Equal x y = comparison_of (λ a b. int_le a b && int_le b a) x y
pair_of men AtLeast x y = comparison_of (λ a b. int_le b a) x y
pair_of men Greater x y = comparison_of (λ a b. int_lt b a) x y

-- one of them holds, their union, the greatest of them
abbrev pub any_of : Kind → List Value → Value
any_of Position vs = some_holds vs
any_of Set vs = union_of vs
any_of Number vs = as_number (greatest vs)
