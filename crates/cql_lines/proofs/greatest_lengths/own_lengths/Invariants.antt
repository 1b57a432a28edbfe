use Rattle.std.proofs.Common.{◌≡◌, ℕ, ◌<◌, ◌≤◌, length, slice_get, Some}
use Rattle.cql_lines.specs.declared.automaton.Transition.{Transition}
use Rattle.cql_lines.specs.Internal.Lengths.{place_value, at}
use Rattle.cql_lines.proofs.greatest_lengths.own_lengths.Given as goal

abbrev pub invariant-loop-i : goal.invariant-loop-i
invariant-loop-i l = record {
  here : (i : ℕ) (r : Transition) → i < l.i → slice_get l.rules i ≡ Some r → at l.own i ≡ place_value r l.held (at l.below) (length l.rules);
  past : (i : ℕ) → l.i ≤ i → at l.own i ≡ 0;
  size : length l.own ≡ 64;
}
