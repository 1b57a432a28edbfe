use Rattle.std.specs.Prelude.{◌≡◌, true}
use Rattle.cql_values.proofs.filter_forms.+gives_only_name.Given as goal

abbrev pub invariant-some_gives_only_name-loop-part : goal.invariant-some_gives_only_name-loop-part
invariant-some_gives_only_name-loop-part l = true ≡ true
