-- Tests of one square, and the value of a word by one value.
use Rattle.std.specs.Prelude.{◌≡◌, ℕ, Bool, true, false, ◌&&◌, not, List, if◌then◌else◌}
use Rattle.std.specs.List.{list_any}
use Rattle.cq_position.specs.Men.{man_number, same_man}
use Rattle.cq_position.specs.declared.men.Man.{Man}
use Rattle.cq_symmetry.specs.Images.{is_in}
use Rattle.cql_syntax.specs.Values.{Value, as_truth, as_squares, as_number, holds, complement_of, size_of, power_of, light_of, dark_of}
use Rattle.cql_syntax.specs.declared.leaves.Plain.{Plain}
use Rattle.cql_syntax.specs.declared.leaves.Plain.TheVariants.{Terminal, Ply, Depth}
use Rattle.cql_syntax.specs.declared.leaves.Unary.{Unary}
use Rattle.cql_syntax.specs.declared.leaves.Unary.TheVariants.{Complement, Count, Power, Light, Dark}

-- a square of a set settles a test of every square of it, or of some
abbrev pub settles : Bool → (set asked : ℕ → Bool) → ℕ → Bool
settles every set asked square = set square && (if every then not (asked square) else asked square)

-- the value of a word or mark, by the value of its part at the same node
abbrev pub unary_result : List Man → Unary → Value → Value
unary_result men Complement x = complement_of x
unary_result men Count x = size_of x
unary_result men Power x = power_of men x
unary_result men Light x = light_of x
unary_result men Dark x = dark_of x
unary_result men word x = as_truth (not (holds x))

-- true for the truth `true` alone; false for a set or a number
abbrev pub is_true : Value → Bool
is_true (as_truth b) = b
is_true (as_squares x) = false
is_true (as_number v) = false

-- the value of a word depends on one node alone
abbrev pub is_local : Plain → Bool
is_local Terminal = false
is_local Ply = false
is_local Depth = false
is_local word = true

-- a list has exactly the men of a set
abbrev pub AreMenOf : ℕ → List Man → Type 0
AreMenOf wanted listed = (m : Man) → list_any (same_man m) listed ≡ is_in wanted (man_number m)
