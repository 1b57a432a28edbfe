use Rattle.std.proofs.Common.{◌≡◌, ℕ, ◌<◌, ◌≤◌, length, slice_get, Some}
use Rattle.cql_lines.specs.declared.automaton.Transition.{Transition}
use Rattle.cql_lines.specs.Internal.Lengths.{at}
use Rattle.cql_lines.specs.Internal.LengthSets.{place_set}
use Rattle.cql_lines.proofs.length_sets.own_length_sets.Given as goal

abbrev pub invariant-loop-i : goal.invariant-loop-i
invariant-loop-i l = record {
  here : (i : ℕ) (r : Transition) → i < l.i → slice_get l.rules i ≡ Some r → at l.own i ≡ place_set r l.held (at l.below) (length l.rules);
  past : (i : ℕ) → l.i ≤ i → at l.own i ≡ 0;
  size : length l.own ≡ 64;
}
