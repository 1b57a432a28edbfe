-- The kinds of men on a square, the empty square among them.
use Rattle.std.specs.Prelude.{Bool, true, false}
use Rattle.cq_position.specs.declared.men.Man.{Man}
use Rattle.cq_position.specs.declared.men.Man.TheVariants.{Empty}
use Rattle.cq_bits.specs.declared.attacks.Kind.{Kind}
use Rattle.cq_bits.specs.declared.attacks.Kind.TheVariants.{Nothing, Straight, Diagonal}
use Rattle.cq_bits.specs.Sets.{goes_straight, goes_diagonally}

abbrev pub is_nothing : Man → Bool
is_nothing Empty = true
is_nothing man = false

abbrev pub is_of_kind : Kind → Man → Bool
is_of_kind Nothing man = is_nothing man
is_of_kind Straight man = goes_straight man
is_of_kind Diagonal man = goes_diagonally man
