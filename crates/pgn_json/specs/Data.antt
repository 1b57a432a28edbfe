-- JSON values (RFC 8259, section 3) of the kinds that the value of a game has: true, numbers, strings of characters, arrays, and objects.
-- Numbers have no sign, fraction or exponent. The members of an object have names and an order. Names may be equal, but those of a game's
-- value differ.
use Rattle.std.specs.Prelude.{ℕ, List, [], ◌∷◌}

mutual
  pub data Value : Type 0 where
    truth : Value
    number : ℕ → Value
    string : List ℕ → Value
    array : Values → Value
    object : Members → Value

  pub data Values : Type 0 where
    no_values : Values
    more_values : Value → Values → Values

  pub data Members : Type 0 where
    no_members : Members
    more_members : List ℕ → Value → Members → Members

-- the values of a list, and an array of them
abbrev pub values_of : List Value → Values
values_of [] = no_values
values_of (v ∷ vs) = more_values v (values_of vs)

abbrev pub array_of : List Value → Value
array_of vs = array (values_of vs)

-- the members of a list of names and values, and an object of them
abbrev pub members_of : List (List ℕ × Value) → Members
members_of [] = no_members
members_of (m ∷ ms) = more_members m.0 m.1 (members_of ms)

abbrev pub object_of : List (List ℕ × Value) → Value
object_of ms = object (members_of ms)
