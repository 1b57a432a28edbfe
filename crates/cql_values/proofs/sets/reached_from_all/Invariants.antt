use Rattle.std.proofs.Common.{◌&&◌}
use Rattle.std.specs.List.{list_any, range_with_len}
use Rattle.cq_position.specs.Bitboards.{IsBitboard}
use Rattle.cq_symmetry.specs.Images.{is_in}
use Rattle.cql_syntax.specs.Values as spec
use Rattle.cql_values.proofs.sets.reached_from_all.Given as goal

abbrev pub invariant-loop-number : goal.invariant-loop-number
invariant-loop-number l =
    IsBitboard l.mask (λ goal. list_any (λ s. is_in l.from s && list_any (spec.leads_to l.m l.n s goal) l.directions) (range_with_len 0 l.number))
