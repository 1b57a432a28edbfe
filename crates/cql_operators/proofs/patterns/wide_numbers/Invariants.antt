use Rattle.std.specs.Prelude.{◌≡◌, map, take, option_map, pos}
use Rattle.cql_operators.proofs.patterns.wide_numbers.Given as goal

abbrev pub invariant-loop-number : goal.invariant-loop-number
invariant-loop-number l = l.wide.items ≡ map (option_map pos) (take l.number-index l.numbers)
